-- Open tempo bounds: the lags of any two floats lie in the range that every room formula counts on, no two floats are refused, and for finite bounds
-- and a meter of 1 to 16 `lag_range` answers what document 01's own rule answers, which knows no meter. Assumes nothing.
use mathlib.Core.Path.{◌≡◌, refl, sym, ap, ◌∙◌}
use mathlib.Core.Bool.{Bool, true, false, not, ◌&&◌}
use Prim.Native.Nat.{ℕ, ◌+◌, ◌≤◌, ◌<◌, max}
use native.Mathlib.Omega.{arith}
use lib.Dec.{T}
use lib.Ieee.{Float, is_nan, lt, le}
use lib.Ieee.Scale.{finite}
use Rattle.numbers.specs.Rounded.{◌⊕◌, ◌⊗◌, ◌⊘◌, real, pick, one, hop}
use Rattle.numbers.specs.Limits.{most_period, rate_fine}
use Rattle.numbers.specs.Refusals.{out_of_bounds}
use Rattle.numbers.proofs.Tests.{and-true}
use Rattle.sizes.proofs.Order.{true→T, lt_back, not_lt}
use Rattle.sizes.proofs.Monotone.{finite_not_nan}
use Rattle.floats.specs.Wholes.{round_of}
use Rattle.options.specs.Options.{with_meter, options_fine}
use Rattle.options.specs.declared.TempoOpts.{TempoOpts}
use Rattle.lags.specs.Lags.{
  LagsSaid,
  sixty,
  lower_bound,
  upper_bound,
  no_less,
  low_bpm,
  high_bpm,
  frames_per_minute,
  minute_over,
  min_lag,
  max_lag,
  lag_room,
  bounds_fine,
  lag_range,
}
use Rattle.lags.proofs.Ranges.{rate_most, min_lag_least, min_lt_max, max_lag_most}

-- for every rate that isn't refused and every two floats, a NaN (the logic has one, whatever its payload) and the infinities among them,
-- 1 ≤ min_lag < max_lag ≤ 45,000
pub lags-within : (rate : ℕ) (o : TempoOpts) → rate_fine rate ≡ true
    → (1 ≤ min_lag rate o) × (min_lag rate o < max_lag rate o) × (max_lag rate o ≤ most_period)
lags-within rate o e = (min_lag_least rate o, min_lt_max rate o, max_lag_most rate o (rate_most rate e))

-- so a lag curve has at most 45,000 slots, and at least two
pub room_within : (rate : ℕ) (o : TempoOpts) → rate_fine rate ≡ true
    → (2 ≤ lag_room (min_lag rate o) (max_lag rate o)) × (lag_room (min_lag rate o) (max_lag rate o) ≤ most_period)
room_within rate o e = let w = lags-within rate o e in (omega (arith, w.1), omega (arith, w.0, w.1, w.2))

-- and no two floats are refused at such a rate, with a meter of 1 to 16
pub none_refused : (rate : ℕ) (o : TempoOpts) → rate_fine rate ≡ true → options_fine o ≡ true → (lag_range rate o).number ≡ 0
unfolding lag_range bounds_fine
none_refused rate o e f = rw (e, f)

-- With a meter of 4 number 1 covers the rate alone, as it did before there were meters.
pub four_refused_by_rate : (rate : ℕ) (o : TempoOpts) → bounds_fine rate (with_meter 4 o) ≡ rate_fine rate
unfolding bounds_fine options_fine
four_refused_by_rate rate o = sym (and-true (rate_fine rate))

-- The lags are those of the bounds, whatever the meter.
pub lags_of_bounds : (rate : ℕ) (o : TempoOpts) (meter : ℕ)
    → (min_lag rate (with_meter meter o) ≡ min_lag rate o) × (max_lag rate (with_meter meter o) ≡ max_lag rate o)
unfolding min_lag max_lag high_bpm low_bpm lower_bound upper_bound
lags_of_bounds rate o meter = (refl, refl)

-- ---- document 01's rule, written out once more: it knows finite bounds alone

-- what number 1 looked at: "Sample rate 1 to 192,000", "BPM bounds finite"
abbrev pub fine_before : ℕ → TempoOpts → Bool
fine_before rate o = rate_fine rate && (finite o.min_bpm && finite o.max_bpm)

-- "Swap if reversed"
abbrev pub reversed : TempoOpts → Bool
reversed o = lt o.max_bpm o.min_bpm

-- max(x, y)
abbrev pub max_of : (x y : Float) → Float
max_of x y = pick (lt y x) x y

-- "lo = max(lo, 1)"
abbrev pub lo_before : TempoOpts → Float
lo_before o = max_of (pick (reversed o) o.max_bpm o.min_bpm) one

-- "hi = max(hi, lo + 1)"
abbrev pub hi_before : TempoOpts → Float
hi_before o = max_of (pick (reversed o) o.min_bpm o.max_bpm) (lo_before o ⊕ one)

-- "min_lag = max(1, round(f·60/hi))", f = rate/256
abbrev pub min_lag_before : ℕ → TempoOpts → ℕ
min_lag_before rate o = max 1 (round_of (real rate ⊘ hop ⊗ sixty ⊘ hi_before o))

-- "max_lag = max(min_lag + 1, round(f·60/lo))"
abbrev pub max_lag_before : ℕ → TempoOpts → ℕ
max_lag_before rate o = max (min_lag_before rate o + 1) (round_of (real rate ⊘ hop ⊗ sixty ⊘ lo_before o))

-- what `lag_range` answered
abbrev pub range_before : ℕ → TempoOpts → LagsSaid
range_before rate o =
    pick (fine_before rate o)
    (record { number = 0; min_lag = min_lag_before rate o; max_lag = max_lag_before rate o })
    (record { number = out_of_bounds; min_lag = 0; max_lag = 0 })

-- ---- for finite bounds it answers so still, at any rate, with any meter that isn't refused

pick-not : {A : Type 0} (s : Bool) (x y : A) → pick (not s) x y ≡ pick s y x
pick-not true x y = refl
pick-not false x y = refl

module _ (o : TempoOpts) (low : finite o.min_bpm ≡ true) (high : finite o.max_bpm ≡ true) where
  not_nan : (x : Float) → finite x ≡ true → T (not (is_nan x))
  not_nan x e = finite_not_nan x (true→T (finite x) e)

  -- of two finite bounds the upper is below the lower, or the lower is at most the upper
  in_order : le o.min_bpm o.max_bpm ≡ not (reversed o)
  in_order = go (reversed o) refl
    where
      go : (s : Bool) → reversed o ≡ s → le o.min_bpm o.max_bpm ≡ not s
      go true e = lt_back o.max_bpm o.min_bpm e
      go false e = not_lt o.max_bpm o.min_bpm (not_nan o.max_bpm high) (not_nan o.min_bpm low) e

  lower-same : lower_bound o ≡ pick (reversed o) o.max_bpm o.min_bpm
  unfolding lower_bound
  lower-same = rw in_order (pick-not (reversed o) o.min_bpm o.max_bpm)

  upper_same : upper_bound o ≡ pick (reversed o) o.min_bpm o.max_bpm
  unfolding upper_bound
  upper_same = rw in_order (pick-not (reversed o) o.max_bpm o.min_bpm)

  pub lo-same : low_bpm o ≡ lo_before o
  unfolding low_bpm no_less
  lo-same = ap (λ (x : Float). max_of x one) lower-same

  pub hi-same : high_bpm o ≡ hi_before o
  unfolding high_bpm no_less
  hi-same =
      ap (λ (x : Float). max_of x (low_bpm o ⊕ one)) upper_same
      ∙ ap (λ (l : Float). max_of (pick (reversed o) o.min_bpm o.max_bpm) (l ⊕ one)) lo-same

  pub min_lag_same : (rate : ℕ) → min_lag rate o ≡ min_lag_before rate o
  unfolding min_lag minute_over frames_per_minute
  min_lag_same rate = ap (λ (h : Float). max 1 (round_of (real rate ⊘ hop ⊗ sixty ⊘ h))) hi-same

  pub max_lag_same : (rate : ℕ) → max_lag rate o ≡ max_lag_before rate o
  unfolding max_lag minute_over frames_per_minute
  max_lag_same rate =
      ap (λ (l : Float). max (min_lag rate o + 1) (round_of (real rate ⊘ hop ⊗ sixty ⊘ l))) lo-same
      ∙ ap (λ (m : ℕ). max (m + 1) (round_of (real rate ⊘ hop ⊗ sixty ⊘ lo_before o))) (min_lag_same rate)

  fine-same : (rate : ℕ) → options_fine o ≡ true → bounds_fine rate o ≡ fine_before rate o
  unfolding bounds_fine
  fine-same rate fine = rw (low, high, fine) refl

pub finite_as_before : (rate : ℕ) (o : TempoOpts) → finite o.min_bpm ≡ true → finite o.max_bpm ≡ true
    → options_fine o ≡ true → lag_range rate o ≡ range_before rate o
unfolding lag_range
finite_as_before rate o low high fine =
    ap (λ (b : Bool). answer b (min_lag rate o) (max_lag rate o)) (fine-same o low high rate fine)
    ∙ ap (λ (m : ℕ). answer (fine_before rate o) m (max_lag rate o)) (min_lag_same o low high rate)
    ∙ ap (λ (m : ℕ). answer (fine_before rate o) (min_lag_before rate o) m) (max_lag_same o low high rate)
  where
    answer : Bool → (least most : ℕ) → LagsSaid
    answer b least most = pick b (record { number = 0; min_lag = least; max_lag = most }) (record { number = out_of_bounds; min_lag = 0; max_lag = 0 })
