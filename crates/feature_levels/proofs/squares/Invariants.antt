-- `feature_levels::squares` meets its contract. The invariant: the sum so far, run on over the samples that are left, is the whole sum. Assumes nothing.
use Prim.Native.Nat.{◌≤◌}
use mathlib.Core.Path.{◌≡◌}
use mathlib.Core.List.{map}
use lib.ListN.{length, drop}
use Rattle.numbers.specs.Rounded.{sum_from, sum_of, squared}
use Rattle.feature_levels.proofs.squares.Given as goal

abbrev pub invariant-loop-i : goal.invariant-loop-i
invariant-loop-i l = (l.i ≤ length l.s) × (sum_from l.sum (map squared (drop l.i l.s)) ≡ sum_of (map squared l.s))
