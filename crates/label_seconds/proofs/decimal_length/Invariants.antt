-- `label_seconds::decimal_length` meets its contract. The invariant: the digits of n are k - 1 and those of m. The measure is m. Assumes nothing.
use mathlib.Core.Path.{◌≡◌}
use Prim.Native.Nat.{◌+◌, ◌≤◌}
use lib.ListN.{length}
use Rattle.texts.specs.Decimals.{decimal}
use Rattle.label_seconds.proofs.decimal_length.Given as goal

abbrev pub invariant-loop-m : goal.invariant-loop-m
invariant-loop-m l = (1 ≤ l.k) × (l.k + l.m ≤ l.n + 1) × (length (decimal l.n) + 1 ≡ l.k + length (decimal l.m))

abbrev pub decreases-loop-m : goal.decreases-loop-m
decreases-loop-m l = l.m
