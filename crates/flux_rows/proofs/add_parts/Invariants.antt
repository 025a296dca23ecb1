-- `flux_rows::add_parts` meets its contract. The invariant: each sum so far, run on over the slots that are left, is the sum run on over all. Assumes
-- nothing.
use mathlib.Core.Path.{◌≡◌}
use Prim.Native.Nat.{◌≤◌}
use lib.ListN.{length, drop}
use Rattle.numbers.specs.Rounded.{sum_from}
use Rattle.flux_rows.proofs.add_parts.Given as goal

abbrev pub invariant-loop-k : goal.invariant-loop-k
invariant-loop-k l =
    (l.k ≤ length l.a)
    × (sum_from l.sums.a (drop l.k l.a) ≡ sum_from l.initial.sums.a l.a)
    × (sum_from l.sums.b (drop l.k l.b) ≡ sum_from l.initial.sums.b l.b)
    × (sum_from l.sums.c (drop l.k l.c) ≡ sum_from l.initial.sums.c l.c)
    × (sum_from l.sums.d (drop l.k l.d) ≡ sum_from l.initial.sums.d l.d)
