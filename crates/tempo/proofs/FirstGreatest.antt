-- "The first greatest weight wins", and `estimate` finds no tempo in a lag curve exactly where "no weight is above 0": for every accepted call that
-- writes its lag curves. Both hold of a list without a NaN (Winners of candidates and of lag_search), so what is proved here is that no weight is
-- one. A clarity lies within 0..1. The tempo of a lag is positive and at most 45,000, so the prior's logarithm is of a positive number and its
-- size at most 4,096, and exp of a negative square is at most 2. So each weight is of size at most 2. Assumes nothing.
use mathlib.Core.Path.{◌≡◌, sym, subst}
use mathlib.Core.Bool.{true, false, not}
use mathlib.Core.List.{List}
use Prim.Native.Nat.{ℕ, ◌+◌, ◌^◌, ◌≤◌, ◌<◌}
use native.Mathlib.Omega.{arith}
use lib.Dec.{T, lit<, lit≤}
use lib.ListN.{length, get_or}
use lib.Ieee.{Float, nan, binary64, is_nan, lt, le, of_bits}
use lib.Ieee.Fits.{div-fits}
use Rattle.numbers.specs.Rounded.{◌⊘◌, real, nought, epsilon, one, hop}
use Rattle.numbers.specs.Limits.{most_rate, most_period, most_rows, value_fine}
use Rattle.numbers.specs.Lists.{every}
use Rattle.numbers.proofs.Tests.{or_left, or_right}
use Rattle.numbers.proofs.Tabs.{get_or-curve, length-tab}
use Rattle.lists.specs.Means.{mean_of}
use Rattle.sizes.specs.Sizes.{AtMost, AtLeast, Within, is_plus, Plus}
use Rattle.sizes.proofs.Numbers.{held_short, held_part}
use Rattle.sizes.proofs.Sizes.{most-finite, most_not_nan, nought-most, real-most, mul_most, div_most}
use Rattle.sizes.proofs.Least.{real-least, least_above, mul-least, div-least}
use Rattle.sizes.proofs.Signs.{real_plus, mul_plus, div_plus}
use Rattle.sizes.proofs.Order.{not_le}
use Rattle.sizes.proofs.Ranges.{between-most}
use Rattle.float_sizes.proofs.LogSizes.{log2_most}
use Rattle.float_sizes.proofs.ExpSizes.{exp_square_most}
use Rattle.options.specs.declared.TempoOpts.{TempoOpts}
use Rattle.lags.specs.Lags.{sixty, frames_per_minute, bpm_at, lag_room, min_lag, max_lag, bounds_fine}
use Rattle.lag_curves.specs.Curves.{likeliest, likely_width, prior_at, clarity_at, weight_at}
use Rattle.lags.proofs.Ranges.{range_of_lem, fine_rate, fine_rate_least}
use Rattle.lag_curves.proofs.CurveSizes.{mean_within, energy_within, clarity-low, clarity-high}
use Rattle.lag_candidates.specs.Candidates.{winner_of}
use Rattle.lag_search.specs.Search.{weight_rule, weight_curve, ac0_of, flat, winner_above}
use Rattle.tempo.specs.Answers.{search_refusal, too_little, unwritten}
use Rattle.tempo.proofs.Refusals.{accepted}
use Rattle.tempo.proofs.Tells.{long_enough}
use Rattle.lag_candidates.proofs.Winners.{FirstGreatest, winner_is_first_greatest}
use Rattle.lag_search.proofs.Winners.{none_above}

-- ---- the prior

-- a positive float, of size at most N and at least 2 ^ -w
record Sized (N w : ℕ) (x : Float) : Type 0 where
  plus : Plus x
  most : AtMost N x
  least : AtLeast 1 (2 ^ w) x

hop-size : Plus hop × AtMost 256 hop × AtLeast 256 1 hop
unfolding of_bits is_plus
hop-size = (record { sign = tt }, record { size = lit≤ tt }, record { size = lit≤ tt })

sixty-size : Plus sixty × AtMost 60 sixty × AtLeast 60 1 sixty
unfolding of_bits is_plus
sixty-size = (record { sign = tt }, record { size = lit≤ tt }, record { size = lit≤ tt })

centre-size : Plus likeliest × AtMost 120 likeliest × AtLeast 120 1 likeliest
unfolding of_bits is_plus
centre-size = (record { sign = tt }, record { size = lit≤ tt }, record { size = lit≤ tt })

width_least : AtLeast 1 1 likely_width
unfolding of_bits
width_least = record { size = lit≤ tt }

one-most : AtMost 1 one
unfolding of_bits
one-most = record { size = lit≤ tt }

module _ (rate lag : ℕ) (rate_from : 1 ≤ rate) (rate_to : rate ≤ most_rate) (lag-from : 1 ≤ lag) (lag-to : lag ≤ most_period) where
  frame_rate_sized : Sized 750 8 (real rate ⊘ hop)
  frame_rate_sized =
      let m : AtMost 192000 (real rate) = real-most rate (omega arith) rate_to in
      record {
        plus = div_plus binary64 hop (most-finite m) (real_plus rate) (least_above (lit< tt) hop-size.0 hop-size.2);
        most = div_most {N = 192000} {p = 256} {q = 1} {R = 750} (lit< tt) (held_short (lit< tt)) (lit≤ tt) m hop-size.2;
        least =
            div-least {p = 1} {q = 1} {M = 256} (lit< tt) (lit< tt) (held_part 8 (lit≤ tt)) (lit≤ tt)
            (real-least rate (omega arith) (omega arith)) hop-size.1;
      }

  frames_sized : Sized 45000 8 (frames_per_minute rate)
  unfolding frames_per_minute
  frames_sized =
      let f = frame_rate_sized in
      record {
        plus = mul_plus binary64 (most-finite f.most) (most-finite sixty-size.1) f.plus sixty-size.0;
        most = mul_most {N = 750} {M = 60} (held_short (lit< tt)) f.most sixty-size.1;
        least =
            mul-least {p = 1} {q = 2 ^ 8} {p' = 60} {q' = 1} (lit< tt) (lit< tt) (lit< tt) (held_part 8 (lit≤ tt)) (lit≤ tt)
            f.least sixty-size.2;
      }

  bpm-sized : Sized 45000 24 (bpm_at rate lag)
  unfolding bpm_at
  bpm-sized =
      let f = frames_sized in
      let m : AtMost 45000 (real lag) = real-most lag (omega arith) lag-to in
      let k : AtLeast 1 1 (real lag) = real-least lag (omega arith) (omega arith) in
      record {
        plus = div_plus binary64 (real lag) (most-finite f.most) f.plus (least_above (lit< tt) (real_plus lag) k);
        most = div_most {N = 45000} {p = 1} {q = 1} {R = 45000} (lit< tt) (held_short (lit< tt)) (lit≤ tt) f.most k;
        least = div-least {p = 1} {q = 2 ^ 8} {M = 45000} (lit< tt) (lit< tt) (held_part 24 (lit≤ tt)) (lit≤ tt) f.least m;
      }

  ratio_sized : Sized 45000 31 (bpm_at rate lag ⊘ likeliest)
  ratio_sized =
      let b = bpm-sized in
      record {
        plus = div_plus binary64 likeliest (most-finite b.most) b.plus (least_above (lit< tt) centre-size.0 centre-size.2);
        most = div_most {N = 45000} {p = 120} {q = 1} {R = 45000} (lit< tt) (held_short (lit< tt)) (lit≤ tt) b.most centre-size.2;
        least = div-least {p = 1} {q = 2 ^ 24} {M = 120} (lit< tt) (lit< tt) (held_part 31 (lit≤ tt)) (lit≤ tt) b.least centre-size.1;
      }

  pub prior_most : AtMost 2 (prior_at rate lag)
  unfolding prior_at
  prior_most =
      let r = ratio_sized in
      exp_square_most
      (div_most {N = 4096} {p = 1} {q = 1} {R = 4096} (lit< tt) (held_short (lit< tt)) (lit≤ tt)
      (log2_most (bpm_at rate lag ⊘ likeliest) (div-fits binary64 (bpm_at rate lag) likeliest) (most-finite r.most)
      (least_above (lit< tt) r.plus r.least))
      width_least)

-- ---- an envelope that is searched, whole or as a window

-- its rate, and the lags from least to most, of which curves are written
pub record Searchable (env : List Float) (rate least most : ℕ) : Type 0 where
  pub values : every value_fine env ≡ true
  pub rows : length env ≤ most_rows
  pub rate_from : 1 ≤ rate
  pub rate_to : rate ≤ most_rate
  pub from : 1 ≤ least
  pub ordered : least ≤ most
  pub to : most ≤ most_period
  pub long : most < length env
  pub loud : flat env ≡ false

-- the clarity and the weight at a lag
abbrev clarity : List Float → ℕ → Float
clarity env lag = clarity_at env (mean_of env) (ac0_of env) lag

abbrev weight : List Float → (rate lag : ℕ) → Float
weight env rate lag = weight_at env (mean_of env) (ac0_of env) rate lag

least_not_nan : T (not (is_nan epsilon))
unfolding of_bits is_nan
least_not_nan = tt

module _ {env : List Float} {rate least most : ℕ} (s : Searchable env rate least most) where
  mean_sized : Within 150 (mean_of env)
  mean_sized = mean_within env s.values s.rows (omega arith)

  enough : lt epsilon (ac0_of env) ≡ true
  unfolding flat
  enough = not_le (ac0_of env) epsilon (most_not_nan (energy_within env s.values s.rows (mean_of env) mean_sized)) least_not_nan s.loud

  pub clarity-held : (lag : ℕ) → lag ≤ most → (le nought (clarity env lag) ≡ true) × (le (clarity env lag) one ≡ true)
  clarity-held lag h =
      let l : lag < length env = omega arith in (
        clarity-low env s.values s.rows (mean_of env) mean_sized (ac0_of env) enough lag l,
        clarity-high env s.values s.rows (mean_of env) mean_sized (ac0_of env) enough lag l,
      )

  weight-most : (lag : ℕ) → 1 ≤ lag → lag ≤ most → AtMost 2 (weight env rate lag)
  unfolding weight_at
  weight-most lag h k =
      let c = clarity-held lag k in
      mul_most {N = 1} {M = 2} (held_short (lit< tt)) (between-most (clarity env lag) nought-most one-most c.0 c.1)
      (prior_most rate lag s.rate_from s.rate_to h (omega arith))

  abbrev weights : List Float
  weights = weight_curve env rate least most

  one_a_lag : length weights ≡ lag_room least most
  one_a_lag = length-tab (weight_rule env rate least) 0 (lag_room least most)

  pub weights_not_nan : (j : ℕ) → j < length weights → T (not (is_nan (get_or weights j nan)))
  weights_not_nan j h =
      let i : j < lag_room least most = omega (arith, one_a_lag) in
      subst (λ (x : Float). T (not (is_nan x))) (sym (get_or-curve (weight_rule env rate least) (lag_room least most) j nan i))
      (most_not_nan (weight-most (least + j) (omega arith) (omega arith)))

  pub first-greatest : FirstGreatest weights (length weights) (winner_of weights)
  first-greatest = winner_is_first_greatest weights weights_not_nan (omega (arith, one_a_lag))

  pub no_weight_above : winner_above weights ≡ false → (j : ℕ) → j < length weights → lt nought (get_or weights j nan) ≡ false
  no_weight_above = none_above weights weights_not_nan

-- an envelope, or a part of one, that isn't refused, is longer than its longest lag and isn't flat
pub searchable_in : (env : List Float) (rate : ℕ) (o : TempoOpts) → bounds_fine rate o ≡ true → every value_fine env ≡ true → length env ≤ most_rows
    → max_lag rate o < length env → flat env ≡ false → Searchable env rate (min_lag rate o) (max_lag rate o)
searchable_in env rate o fine values rows long loud =
    let r = range_of_lem rate o fine in
    record {
      values = values;
      rows = rows;
      rate_from = fine_rate_least rate o fine;
      rate_to = fine_rate rate o fine;
      from = r.from_one;
      ordered = omega (arith, r.ordered);
      to = r.most-max;
      long = long;
      loud = loud;
    }

-- ---- every call of `estimate` that writes its lag curves

module _ (env : List Float) (onsets rate : ℕ) (o : TempoOpts) (clarities weights works : ℕ)
    (answered : search_refusal env rate o clarities weights works ≡ 0) (written : unwritten env onsets (max_lag rate o) ≡ false) where
  long_is : max_lag rate o + 1 < length env
  unfolding unwritten
  long_is = long_enough (length env) onsets (max_lag rate o) (or_left (too_little (length env) onsets (max_lag rate o)) (flat env) written)

  loud_is : flat env ≡ false
  unfolding unwritten
  loud_is = or_right (too_little (length env) onsets (max_lag rate o)) (flat env) written

  pub searchable : Searchable env rate (min_lag rate o) (max_lag rate o)
  searchable =
      let a = accepted env rate o clarities weights works answered in
      searchable_in env rate o a.bounds a.values a.rows (omega (arith, long_is)) loud_is

  abbrev lag_weights : List Float
  lag_weights = weight_curve env rate (min_lag rate o) (max_lag rate o)

  -- "held to 0..1"
  pub clarity-within : (lag : ℕ) → lag ≤ max_lag rate o → (le nought (clarity env lag) ≡ true) × (le (clarity env lag) one ≡ true)
  clarity-within = clarity-held searchable

  -- "The first greatest weight wins"
  pub wins_first_greatest : FirstGreatest lag_weights (length lag_weights) (winner_of lag_weights)
  wins_first_greatest = first-greatest searchable

  -- where there is no tempo then, "no weight is above 0"
  pub none_wins : winner_above lag_weights ≡ false → (j : ℕ) → j < length lag_weights → lt nought (get_or lag_weights j nan) ≡ false
  none_wins = no_weight_above searchable
