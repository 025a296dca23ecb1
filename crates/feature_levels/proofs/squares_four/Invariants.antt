-- `feature_levels::squares_four` meets its contract. The invariant: each sum so far, run on over the samples that are left, is the whole sum. Assumes
-- nothing.
use Prim.Native.Nat.{◌≤◌}
use mathlib.Core.Path.{◌≡◌}
use mathlib.Core.List.{map}
use lib.ListN.{length, drop}
use Rattle.numbers.specs.Rounded.{sum_from, sum_of, squared}
use Rattle.feature_levels.proofs.squares_four.Given as goal

abbrev pub invariant-loop-i : goal.invariant-loop-i
invariant-loop-i l = (l.i ≤ length l.a)
    × (sum_from l.sums.a (map squared (drop l.i l.a)) ≡ sum_of (map squared l.a))
    × (sum_from l.sums.b (map squared (drop l.i l.b)) ≡ sum_of (map squared l.b))
    × (sum_from l.sums.c (map squared (drop l.i l.c)) ≡ sum_of (map squared l.c))
    × (sum_from l.sums.d (map squared (drop l.i l.d)) ≡ sum_of (map squared l.d))
