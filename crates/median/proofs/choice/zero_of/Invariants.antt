-- `median::choice::zero_of` meets its contract. The invariant: the count is that of the entries passed. Assumes nothing.
use Prim.Native.Nat.{◌≤◌}
use mathlib.Core.Path.{◌≡◌}
use lib.ListN.{take}
use Rattle.median.specs.Ranks.{below}
use Rattle.median.specs.Choice.{plus_zero}
use Rattle.median.proofs.choice.zero_of.Given as goal

abbrev pub invariant-loop-i : goal.invariant-loop-i
invariant-loop-i l = (l.i ≤ l.m) × (l.n ≤ l.i) × (l.n ≡ below plus_zero (take l.i l.a))
