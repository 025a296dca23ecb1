-- `median::choice::keep` meets its contract. The invariant: the entries of the side among those passed stand in front, and what is left is
-- untouched. Assumes nothing.
use Prim.Native.Nat.{◌≤◌}
use Rattle.median.specs.Choice.{on_side}
use Rattle.median.proofs.Choosing.{Keeping}
use Rattle.median.proofs.choice.keep.Given as goal

abbrev pub invariant-loop-i : goal.invariant-loop-i
invariant-loop-i l = (Keeping (on_side l.side l.low l.high) l.initial.a l.n l.i l.a) × (l.i ≤ l.m)
