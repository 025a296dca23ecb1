-- How large the lags are. The lower bound is at least 1 and the upper at least 2, whatever the options hold, a NaN and an infinity too;
-- f·60 is at most 45,000; so the lags are at most 22,500 and 45,000, and each quotient rounds to that or less. Assumes nothing.
use mathlib.Core.Path.{◌≡◌, refl, sym, ap, ◌∙◌}
use mathlib.Core.Bool.{Bool, true, false, not}
use Prim.Native.Nat.{ℕ, ◌*◌, ◌^◌, ◌≤◌, ◌<◌}
use native.Mathlib.Omega.{arith}
use borrow.Author.Tests.{leb-true}
use lib.Dec.{T, leb, lit<, lit≤}
use lib.Ieee.{Float, binary64, is_nan, lt, le, add, of_bits}
use lib.Ieee.Scale.{finite}
use Rattle.numbers.specs.Rounded.{◌⊕◌, pick, one, hop}
use Rattle.numbers.specs.Limits.{most_rate, most_period, between, rate_fine}
use Rattle.numbers.proofs.Tests.{and_left, and_right, pick_true, pick-false}
use Rattle.sizes.specs.Sizes.{AtMost, AtLeast, is_plus, Plus}
use Rattle.sizes.proofs.Numbers.{held_short}
use Rattle.sizes.proofs.Sizes.{div_most, mul_most, real-most}
use Rattle.sizes.proofs.Order.{le_right, lt_is_le, le_self, le_then_le}
use Rattle.sizes.proofs.Ranges.{le_least}
use Rattle.sizes.proofs.Monotone.{add_mono_left}
use Rattle.float_sizes.proofs.WholeSizes.{round_at_most}
use Rattle.options.specs.Options.{most_meter, options_fine}
use Rattle.options.specs.declared.TempoOpts.{TempoOpts}
use Rattle.lags.specs.Lags.{LagsSaid, sixty, upper_bound, lower_bound, no_less, low_bpm, high_bpm, frames_per_minute, minute_over, min_lag, max_lag, bounds_fine, lag_range}

-- ---- the bounds in beats a minute

no_less-from : (least x : Float) → T (not (is_nan least)) → le least (no_less least x) ≡ true
unfolding no_less
no_less-from least x h = go (lt least x) refl
  where
    go : (b : Bool) → lt least x ≡ b → le least (pick b x least) ≡ true
    go true e = lt_is_le least x e
    go false e = le_self least h

one-fine : T (not (is_nan one)) × T (finite one)
unfolding of_bits is_nan
one-fine = (tt, tt)

low-from : (o : TempoOpts) → le one (low_bpm o) ≡ true
unfolding low_bpm
low-from o = no_less-from one (lower_bound o) one-fine.0

high-from : (o : TempoOpts) → le (one ⊕ one) (high_bpm o) ≡ true
unfolding high_bpm
high-from o =
    let two : le (one ⊕ one) (low_bpm o ⊕ one) ≡ true = add_mono_left binary64 one (low_bpm o) one one-fine.1 (low-from o) in
    le_then_le (one ⊕ one) (low_bpm o ⊕ one) (high_bpm o) two
    (no_less-from (low_bpm o ⊕ one) (upper_bound o) (le_right (one ⊕ one) (low_bpm o ⊕ one) two))

one_size : Plus one × AtLeast 1 1 one
unfolding of_bits is_plus
one_size = (record { sign = tt }, record { size = lit≤ tt })

two_size : Plus (one ⊕ one) × AtLeast 2 1 (one ⊕ one)
unfolding of_bits add is_plus
two_size = (record { sign = tt }, record { size = lit≤ tt })

-- ---- the lags

hop-size : AtLeast 256 1 hop
unfolding of_bits
hop-size = record { size = lit≤ tt }

sixty-size : AtMost 60 sixty
unfolding of_bits
sixty-size = record { size = lit≤ tt }

frames_most : (rate : ℕ) → rate ≤ most_rate → AtMost 45000 (frames_per_minute rate)
unfolding frames_per_minute
frames_most rate h =
    let s : rate ≤ 2 ^ 53 = omega arith in
    mul_most {N = 750} {M = 60} (held_short (lit< tt))
    (div_most {N = 192000} {p = 256} {q = 1} {R = 750} (lit< tt) (held_short (lit< tt)) (lit≤ tt) (real-most rate s h) hop-size)
    sixty-size

-- over a tempo of at least p
minute_most : (rate p R : ℕ) (bpm : Float) → rate ≤ most_rate → 0 < p → R < 2 ^ 53 → 45000 * 1 ≤ R * p → AtLeast p 1 bpm → AtMost R (minute_over rate bpm)
unfolding minute_over
minute_most rate p R bpm h P r l k = div_most {N = 45000} {p = p} {q = 1} {R = R} P (held_short r) l (frames_most rate h) k

pub min_lag_most : (rate : ℕ) (o : TempoOpts) → rate ≤ most_rate → min_lag rate o ≤ 22500
unfolding min_lag
min_lag_most rate o h =
    let k : AtLeast 2 1 (high_bpm o) = le_least (high_bpm o) two_size.0 two_size.1 (high-from o) in
    omega (arith, round_at_most (minute_most rate 2 22500 (high_bpm o) h (lit< tt) (lit< tt) (lit≤ tt) k))

pub max_lag_most : (rate : ℕ) (o : TempoOpts) → rate ≤ most_rate → max_lag rate o ≤ most_period
unfolding max_lag
max_lag_most rate o h =
    let k : AtLeast 1 1 (low_bpm o) = le_least (low_bpm o) one_size.0 one_size.1 (low-from o) in
    omega (
      arith,
      min_lag_most rate o h,
      round_at_most (minute_most rate 1 most_period (low_bpm o) h (lit< tt) (lit< tt) (lit≤ tt) k),
    )

pub min_lag_least : (rate : ℕ) (o : TempoOpts) → 1 ≤ min_lag rate o
unfolding min_lag
min_lag_least rate o = omega arith

pub min_lt_max : (rate : ℕ) (o : TempoOpts) → min_lag rate o < max_lag rate o
unfolding max_lag
min_lt_max rate o = omega arith

-- ---- what `lag_range` answers

pub rate_most : (rate : ℕ) → rate_fine rate ≡ true → rate ≤ most_rate
rate_most rate e = leb-true rate most_rate (and_right (leb 1 rate) (leb rate most_rate) e)

pub fine_rate : (rate : ℕ) (o : TempoOpts) → bounds_fine rate o ≡ true → rate ≤ most_rate
unfolding bounds_fine
fine_rate rate o e = rate_most rate (and_left (rate_fine rate) (options_fine o) e)

pub fine_rate_least : (rate : ℕ) (o : TempoOpts) → bounds_fine rate o ≡ true → 1 ≤ rate
unfolding bounds_fine
fine_rate_least rate o e = leb-true 1 rate (and_left (leb 1 rate) (leb rate most_rate) (and_left (rate_fine rate) (options_fine o) e))

pub fine_meter : (rate : ℕ) (o : TempoOpts) → bounds_fine rate o ≡ true → between 1 most_meter o.meter ≡ true
unfolding bounds_fine options_fine
fine_meter rate o e = and_right (rate_fine rate) (options_fine o) e

-- the lags of an answered range
pub record Answered (rate : ℕ) (o : TempoOpts) : Type 0 where
  pub fine : bounds_fine rate o ≡ true
  pub least : (lag_range rate o).min_lag ≡ min_lag rate o
  pub greatest : (lag_range rate o).max_lag ≡ max_lag rate o
  pub from_one : 1 ≤ min_lag rate o
  pub ordered : min_lag rate o < max_lag rate o
  pub most-min : min_lag rate o ≤ 22500
  pub most-max : max_lag rate o ≤ most_period

-- the bounds are fine
pub range_of_lem : (rate : ℕ) (o : TempoOpts) → bounds_fine rate o ≡ true → Answered rate o
unfolding lag_range
range_of_lem rate o e =
    record {
      fine = e;
      least = ap (λ (r : LagsSaid). r.min_lag) (pick_true (bounds_fine rate o) _ _ e);
      greatest = ap (λ (r : LagsSaid). r.max_lag) (pick_true (bounds_fine rate o) _ _ e);
      from_one = min_lag_least rate o;
      ordered = min_lt_max rate o;
      most-min = min_lag_most rate o (fine_rate rate o e);
      most-max = max_lag_most rate o (fine_rate rate o e);
    }

-- the number is 0
pub answered : (rate : ℕ) (o : TempoOpts) → (lag_range rate o).number ≡ 0 → Answered rate o
unfolding lag_range
answered rate o e = go (bounds_fine rate o) refl
  where
    go : (b : Bool) → bounds_fine rate o ≡ b → Answered rate o
    go true f = range_of_lem rate o f
    go false f = absurd (one_not_zero (sym (ap (λ (r : LagsSaid). r.number) (pick-false (bounds_fine rate o) _ _ f)) ∙ e))
      where
        one_not_zero : ◌≡◌ {A = ℕ} 1 0 → ⊥
        one_not_zero z = omega arith
