-- `lag_curves::fill_thirty_two` meets its contract: each eight of the sums is that of its slots' lags, and the slots of the two calls
-- join. Assumes nothing.
use mathlib.Core.Path.{◌≡◌, ap, ◌∙◌}
use mathlib.Core.List.{List}
use Prim.Native.Nat.{ℕ, ◌+◌, ◌≤◌, ◌-◌, ◌*◌, ◌/◌}
use native.Mathlib.Omega.{arith}
use lib.ListN.{length}
use lib.Ieee.{Float}
use Rattle.lag_sums.specs.declared.abreast.ThirtyTwo.{ThirtyTwo}
use Rattle.lag_curves.specs.Curves.{clarity_from}
use Rattle.lag_sums.specs.Lanes.{eight_sums, thirty_two_sums}
use Rattle.lag_curves.proofs.Joins.{joined}
use Rattle.lag_curves.proofs.fill_thirty_two.Goals as goal

-- the four eights, each at the lag of its first slot
module _ (env : List Float) (mean : Float) (least from t : ℕ) (s : ThirtyTwo) (e : s ≡ thirty_two_sums env mean (least + from) t) where
  at-lag : (l k : ℕ) → l ≡ k → eight_sums env mean l t ≡ eight_sums env mean k t
  at-lag l k h = ap (λ (n : ℕ). eight_sums env mean n t) h

  eights-low : (s.a ≡ eight_sums env mean (least + from) t) × (s.b ≡ eight_sums env mean (least + (from + 8)) t)
  unfolding thirty_two_sums
  eights-low = (ap (λ (x : ThirtyTwo). x.a) e, ap (λ (x : ThirtyTwo). x.b) e ∙ at-lag _ _ (omega arith))

  eights-high : (s.c ≡ eight_sums env mean (least + (from + 16)) t) × (s.d ≡ eight_sums env mean (least + (from + 16 + 8)) t)
  unfolding thirty_two_sums
  eights-high = (ap (λ (x : ThirtyTwo). x.c) e ∙ at-lag _ _ (omega arith), ap (λ (x : ThirtyTwo). x.d) e ∙ at-lag _ _ (omega arith))

pub fill_sixteen-requires : goal.fill_sixteen-requires
fill_sixteen-requires c =
    let a = c.args in
    let t = (length a.envelope.now - (a.min_lag + a.from) - 32) / 128 * 128 in record {
      from_in_bounds = (omega arith, omega arith, omega arith);
      low_value = eights-low a.envelope.now a.mean a.min_lag a.from t c.block_sums-s.result
          c.block_sums-s.ensures;
    }

pub fill_sixteen-requires-2 : goal.fill_sixteen-requires-2
fill_sixteen-requires-2 c =
    let a = c.args in
    let t = (length a.envelope.now - (a.min_lag + a.from) - 32) / 128 * 128 in record {
      from_in_bounds = (omega arith, omega arith, omega arith);
      low_value = eights-high a.envelope.now a.mean a.min_lag a.from t c.block_sums-s.result
          c.block_sums-s.ensures;
    }

pub returns : goal.returns
returns c =
    let a = c.args in
    let room : a.from + 16 + 16 ≤ length a.clarity.now = omega (arith, c.requires.1) in
    joined (clarity_from a.envelope.now a.mean a.ac0 a.min_lag) a.clarity.now _ _ a.from (a.from + 16) (a.from + 32)
    (a.from + 16 + 16) (omega arith) (omega arith) (omega arith) room
    c.fill_sixteen.ensures c.fill_sixteen-2.ensures
