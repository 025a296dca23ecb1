-- `onsets::peaks::pick_by` meets its contract. The invariant is `Picking`, at what the closure answers. Assumes nothing.
use mathlib.Core.Path.{◌≡◌}
use Prim.Native.Nat.{◌-◌}
use lib.ListN.{length}
use Rattle.onsets.proofs.Steps.{Picking}
use Rattle.onsets.proofs.peaks.pick_by.Given as goal

abbrev pub invariant-loop-t : goal.invariant-loop-t
invariant-loop-t g l = (l.last ≡ length l.curve - 1) × Picking l.curve (goal.F-post g l.level) l.gap l.t l.initial.frames l.group l.frames
