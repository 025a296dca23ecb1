-- `lags::lags_in` meets its contract. The two lags are the definition's step by step (`min-is`, `max-is`); that min_lag + 1 does not
-- wrap is `min_lag_most`, which holds for every pair of bounds. Assumes nothing.
use mathlib.Core.Path.{◌≡◌, ap, ◌∙◌}
use Prim.Native.Nat.{ℕ, ◌+◌, max}
use native.Mathlib.Omega.{arith}
use lib.Ieee.{Float}
use Rattle.floats.specs.Wholes.{round_of}
use Rattle.options.specs.declared.TempoOpts.{TempoOpts}
use Rattle.lags.specs.Lags.{low_bpm, high_bpm, minute_over, min_lag, max_lag}
use Rattle.lags.proofs.Ranges.{min_lag_most, fine_rate}
use Rattle.lags.proofs.lags_in.Goals as goal

module _ (rate : ℕ) (o : TempoOpts) where
  min-is : (bpm : Float) (lag r : ℕ) → bpm ≡ high_bpm o → lag ≡ round_of (minute_over rate bpm) → r ≡ max lag 1 → r ≡ min_lag rate o
  unfolding min_lag
  min-is bpm lag r e h k =
      let turned : max lag 1 ≡ max 1 lag = omega arith in
      k ∙ turned ∙ ap (max 1) (h ∙ ap (λ (x : Float). round_of (minute_over rate x)) e)

  max-is : (bpm : Float) (least lag r : ℕ) → bpm ≡ low_bpm o → lag ≡ round_of (minute_over rate bpm) → least ≡ min_lag rate o → r ≡ max (least + 1) lag
      → r ≡ max_lag rate o
  unfolding max_lag
  max-is bpm least lag r e h m k = k ∙ ap (λ (x : ℕ). max (x + 1) lag) m ∙ ap (max (min_lag rate o + 1)) (h ∙ ap (λ (x : Float). round_of (minute_over rate x)) e)

pub overflow_add-min_lag : goal.overflow_add-min_lag
overflow_add-min_lag c =
    let a = c.args in
    let e : c.max-min_lag.result ≡ min_lag a.rate a.opts =
    min-is a.rate a.opts c.high_bpm.result c.lag_of.result c.max-min_lag.result c.high_bpm.ensures
    c.lag_of.ensures c.max-min_lag.ensures in
    omega (arith, e, min_lag_most a.rate a.opts (fine_rate a.rate a.opts c.requires))

pub returns : goal.returns
returns c =
    let a = c.args in
    let m : c.max-min_lag.result ≡ min_lag a.rate a.opts =
    min-is a.rate a.opts c.high_bpm.result c.lag_of.result c.max-min_lag.result c.high_bpm.ensures
    c.lag_of.ensures c.max-min_lag.ensures in
    let n : c.max-max_lag.result ≡ max_lag a.rate a.opts =
    max-is a.rate a.opts c.low_bpm.result c.max-min_lag.result c.lag_of-2.result c.max-max_lag.result
    c.low_bpm.ensures c.lag_of-2.ensures m c.max-max_lag.ensures in
    rw (m, n)
