-- `feature_lanes::add_stretch` meets its contract. The invariant: each sum so far, run on over the bins that are left, is the sum run on from the first.
-- Assumes nothing.
use Prim.Native.Nat.{◌≤◌}
use mathlib.Core.Path.{◌≡◌}
use Rattle.numbers.specs.Rounded.{sum_from, squared}
use Rattle.feature_lanes.specs.Addends.{itself, stretch_terms}
use Rattle.feature_lanes.proofs.add_stretch.Given as goal

abbrev pub invariant-loop-k : goal.invariant-loop-k
invariant-loop-k l = (l.from ≤ l.k) × (l.k ≤ l.past)
    × (sum_from l.class.a (stretch_terms itself l.a l.k l.past) ≡ sum_from l.initial.class.a (stretch_terms itself l.a l.from l.past))
    × (sum_from l.class.b (stretch_terms itself l.b l.k l.past) ≡ sum_from l.initial.class.b (stretch_terms itself l.b l.from l.past))
    × (sum_from l.class.c (stretch_terms itself l.c l.k l.past) ≡ sum_from l.initial.class.c (stretch_terms itself l.c l.from l.past))
    × (sum_from l.class.d (stretch_terms itself l.d l.k l.past) ≡ sum_from l.initial.class.d (stretch_terms itself l.d l.from l.past))
    × (sum_from l.band.a (stretch_terms squared l.a l.k l.past) ≡ sum_from l.initial.band.a (stretch_terms squared l.a l.from l.past))
    × (sum_from l.band.b (stretch_terms squared l.b l.k l.past) ≡ sum_from l.initial.band.b (stretch_terms squared l.b l.from l.past))
    × (sum_from l.band.c (stretch_terms squared l.c l.k l.past) ≡ sum_from l.initial.band.c (stretch_terms squared l.c l.from l.past))
    × (sum_from l.band.d (stretch_terms squared l.d l.k l.past) ≡ sum_from l.initial.band.d (stretch_terms squared l.d l.from l.past))
