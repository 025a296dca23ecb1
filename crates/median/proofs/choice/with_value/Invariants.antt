-- `median::choice::with_value` is safe and ends: each slot that is read or written is one of the thirteen. Assumes nothing.
use Prim.Native.Nat.{◌≤◌, ◌<◌}
use Rattle.median.proofs.choice.with_value.Given as goal

abbrev pub invariant-loop-i : goal.invariant-loop-i
invariant-loop-i l = (0 < l.i) × (l.i ≤ 13)
