-- `median::sift_down` meets its contract. The invariant: the list is the one at the start with entries below end exchanged, and a heap but for the
-- entry at parent. The measure is what lies between parent and end. An exchange moves the hole to the child, and where none is made, or the
-- parent has no child, the hole is no hole. Assumes nothing.
use Prim.Native.Nat.{◌≤◌, ◌-◌}
use Rattle.median.specs.Heaps.{Moved}
use Rattle.median.proofs.Heaps.{Hole}
use Rattle.median.proofs.sift_down.Given as goal

abbrev pub invariant-loop-parent : goal.invariant-loop-parent
invariant-loop-parent l = (Moved l.a l.initial.a l.end) × (Hole l.a l.start l.parent l.end) × (l.start ≤ l.parent)

abbrev pub decreases-loop-parent : goal.decreases-loop-parent
decreases-loop-parent l = l.end - l.parent
