-- `median::choice::spread_of` is safe and ends: the places that are read lie inside the list. Assumes nothing.
use Prim.Native.Nat.{◌≤◌}
use Rattle.median.proofs.choice.spread_of.Given as goal

abbrev pub invariant-loop-i : goal.invariant-loop-i
invariant-loop-i l = (l.i ≤ 24)
