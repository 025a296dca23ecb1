-- `section_peaks::list_chosen` meets its contract. The invariant: the first rows that the cut takes are listed, and those that it takes of the peaks
-- kept from t on, with what is then spared, follow. The measure is what is left of the curve. Assumes nothing.
use mathlib.Core.Path.{◌≡◌}
use Prim.Native.Nat.{◌-◌, ◌<◌}
use lib.ListN.{length}
use Rattle.floats.specs.TotalOrder.{key}
use Rattle.section_peaks.specs.Steps.{kept_from, AtPeak, chosen}
use Rattle.section_peaks.proofs.Walks.{Sofar}
use Rattle.section_peaks.proofs.list_chosen.Given as goal

abbrev pub invariant-loop-t : goal.invariant-loop-t
invariant-loop-t l =
    (l.last ≡ length l.curve - 1) × (l.count < l.t) × (length l.rows ≡ length l.initial.rows) × AtPeak l.curve l.level l.t
    × Sofar (chosen l.curve (key l.edge) l.initial.spare (kept_from l.curve l.level l.gap 1)) (chosen l.curve (key l.edge) l.spare (kept_from l.curve l.level l.gap l.t)) l.initial.rows l.rows l.count

abbrev pub decreases-loop-t : goal.decreases-loop-t
decreases-loop-t l = length l.curve - l.t
