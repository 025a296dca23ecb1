-- `section_peaks::note_values` meets its contract. The invariant: the values of the first kept peaks are listed, and those of the peaks kept from t on
-- follow. The measure is what is left of the curve. Assumes nothing.
use mathlib.Core.Path.{◌≡◌}
use mathlib.Core.List.{map}
use Prim.Native.Nat.{◌-◌, ◌<◌}
use lib.ListN.{length}
use Rattle.onsets.specs.Peaks.{at}
use Rattle.section_peaks.specs.Steps.{kept_from, AtPeak}
use Rattle.section_peaks.proofs.Walks.{Sofar}
use Rattle.section_peaks.proofs.note_values.Given as goal

abbrev pub invariant-loop-t : goal.invariant-loop-t
invariant-loop-t l =
    (l.last ≡ length l.curve - 1) × (l.count < l.t) × (length l.work ≡ length l.initial.work) × AtPeak l.curve l.level l.t
    × Sofar (map (at l.curve) (kept_from l.curve l.level l.gap 1)) (map (at l.curve) (kept_from l.curve l.level l.gap l.t)) l.initial.work l.work l.count

abbrev pub decreases-loop-t : goal.decreases-loop-t
decreases-loop-t l = length l.curve - l.t
