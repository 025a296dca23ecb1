-- `median::choice::by_halves` is safe and ends: the range of the keys that may be it gets smaller each turn. Assumes nothing.
use Prim.Native.Nat.{◌-◌, ◌≤◌}
use Rattle.median.proofs.choice.by_halves.Given as goal

abbrev pub invariant-loop-bottom : goal.invariant-loop-bottom
invariant-loop-bottom l = (l.bottom ≤ l.top) × (l.top ≤ 0xFFF0_0000_0000_0000)

abbrev pub decreases-loop-bottom : goal.decreases-loop-bottom
decreases-loop-bottom l = l.top - l.bottom
