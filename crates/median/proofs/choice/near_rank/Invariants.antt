-- `median::choice::near_rank` is safe and ends. A guess promises nothing. Assumes nothing.
use Prim.Native.Nat.{◌≤◌}
use Rattle.median.proofs.choice.near_rank.Given as goal

abbrev pub invariant-loop-i : goal.invariant-loop-i
invariant-loop-i l = (l.i ≤ l.m)
