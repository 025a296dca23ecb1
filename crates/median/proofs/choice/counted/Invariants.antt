-- `median::choice::counted` meets its contract. The invariant: both counts are those of the entries passed. Assumes nothing.
use Prim.Native.Nat.{◌≤◌}
use mathlib.Core.Path.{◌≡◌}
use lib.ListN.{take}
use Rattle.median.specs.Ranks.{below}
use Rattle.median.specs.Choice.{first_key, past_key}
use Rattle.median.proofs.choice.counted.Given as goal

abbrev pub invariant-loop-i : goal.invariant-loop-i
invariant-loop-i l =
    (l.i ≤ l.m) × (l.c ≤ l.i) × (l.d ≤ l.i) × (l.c ≡ below (first_key l.low) (take l.i l.a)) × (l.d ≡ below (past_key l.high) (take l.i l.a))
