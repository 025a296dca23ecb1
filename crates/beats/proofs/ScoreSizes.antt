-- Every score is finite, for every envelope that is not refused: values of at most 2 ^ 150, a variance above 2 ^ -52, and penalties of at most
-- 2 ^ 29 make scaled fluxes of at most 2 ^ 176, and any number of frames below 2 ^ 30 a score of at most 2 ^ 208.
use mathlib.Core.Path.{◌≡◌, sym, subst}
use mathlib.Core.Bool.{true, false}
use mathlib.Core.List.{List, [], map}
use Prim.Native.Nat.{ℕ, zero, suc, ◌+◌, ◌-◌, ◌*◌, ◌^◌, ◌≤◌, ◌<◌}
use native.Mathlib.Nat.{le_trans, suc-mul, mul-le-mul_right}
use native.Mathlib.Omega.{arith}
use lib.Dec.{T, lit<, lit≤}
use lib.ListN.{length, get_or, length-map}
use lib.Ieee.{Float, nan, binary64, lt, neg, of_bits, fits}
use lib.Ieee.Fits.{div-fits}
use lib.Ieee.Scale.{finite}
use Rattle.numbers.specs.Rounded.{◌⊕◌, ◌⊖◌, real, nought, epsilon, one}
use Rattle.numbers.specs.Limits.{most_rows, most_period, value_fine}
use Rattle.numbers.specs.Lists.{every}
use Rattle.numbers.proofs.Tests.{pick-false}
use Rattle.lists.specs.Means.{mean_of}
use Rattle.lists.proofs.Means.{mean_of_mapped}
use Rattle.sizes.specs.Sizes.{AtMost, Within, AtLeast, Plus, is_plus, Held, Each, none, more}
use Rattle.sizes.proofs.Numbers.{held_multiple}
use Rattle.sizes.proofs.Sizes.{add_most, most_weaken, most-finite, most_not_nan, nought-most, sub_within, mul-within, div-within, within_weaken}
use Rattle.sizes.proofs.Lists.{values-within, each_at}
use Rattle.sizes.proofs.Sums.{sum-within}
use Rattle.sizes.proofs.Least.{real-least, least_above}
use Rattle.sizes.proofs.Order.{lt_is_le, not_le, lt_then_lt}
use Rattle.sizes.proofs.Ranges.{le_least}
use Rattle.sizes.proofs.Signs.{plus_not_nan}
use Rattle.float_sizes.proofs.LogSizes.{log_ratio_most}
use Rattle.sizes.proofs.Monotone.{add_swap}
use Rattle.roots.proofs.Roots.{sqrt_least}
use Rattle.lists.specs.declared.Best.{Best}
use Rattle.beat_links.specs.Extensions.{four_hundred, penalty, extended, extension}
use Rattle.beat_links.proofs.Extensions.{Linked, unlinks, links-to, linked, follows_below}
use Rattle.beats.specs.Envelopes.{beatless, square_about, variance_of, scale_of, scaled_by, scaled}
use Rattle.beats.specs.Scores.{scores}
use Rattle.beats.specs.Grids.{scores_of}
use Rattle.beats.proofs.Beatless.{Lively, lively}
use Rattle.beats.proofs.Links.{score-at}

-- ---- the scaled flux

each_mapped : {A B : Type 0} {P : A → Type 0} {Q : B → Type 0} {xs : List A} (f : A → B) → ((x : A) → P x → Q (f x)) → Each P xs → Each Q (map f xs)
each_mapped f h none = none
each_mapped f h (more p e) = more (h _ p) (each_mapped f h e)

flatness_least : AtLeast 1 (2 ^ 52) epsilon
unfolding of_bits
flatness_least = record { size = lit≤ tt }

flatness_plus : Plus epsilon
unfolding of_bits is_plus
flatness_plus = record { sign = tt }

one-within : Within 0 one
unfolding of_bits
one-within = record { size = lit≤ tt }

module _ (envelope : List Float) (period : ℕ) (fine : every value_fine envelope ≡ true) (rows : length envelope ≤ most_rows) (live : Lively envelope period) where
  values : Each (Within 150) envelope
  values = values-within envelope fine

  frames_least : AtLeast 1 (2 ^ 0) (real (length envelope))
  frames_least = real-least (length envelope) (omega arith) (omega (arith, live.frames))

  mean_within : Within 180 (mean_of envelope)
  unfolding mean_of
  mean_within = div-within binary64 180 0 (lit≤ tt) (sum-within 30 150 (lit≤ tt) (lit≤ tt) (omega arith) values) frames_least

  square-within : (x : Float) → Within 150 x → Within 362 (square_about (mean_of envelope) x)
  unfolding square_about
  square-within x h =
      let d : Within 181 (x ⊖ mean_of envelope) = sub_within binary64 180 (lit≤ tt) (within_weaken 150 180 (lit≤ tt) h) mean_within in
      mul-within binary64 181 181 (lit≤ tt) d d

  variance_within : Within 392 (variance_of envelope)
  unfolding variance_of
  variance_within =
      subst (Within 392) (sym (mean_of_mapped (square_about (mean_of envelope)) envelope))
      (div-within binary64 392 0 (lit≤ tt)
      (sum-within 30 362 (lit≤ tt) (lit≤ tt) (omega (arith, length-map envelope (square_about (mean_of envelope))))
      (each_mapped (square_about (mean_of envelope)) square-within values)) frames_least)

  variance_fits : T (fits binary64 (variance_of envelope))
  unfolding variance_of
  variance_fits = div-fits binary64 _ _

  -- a variance above 2 ^ -52
  variance_above : lt epsilon (variance_of envelope) ≡ true
  variance_above = not_le (variance_of envelope) epsilon (most_not_nan variance_within) (plus_not_nan flatness_plus) live.varies

  variance_least : AtLeast 1 (2 ^ 52) (variance_of envelope)
  variance_least = le_least (variance_of envelope) flatness_plus flatness_least (lt_is_le epsilon (variance_of envelope) variance_above)

  scale_within : Within 26 (scale_of envelope)
  unfolding scale_of
  scale_within =
      div-within binary64 0 26 (lit≤ tt) one-within
      (sqrt_least 26 (lit≤ tt) variance_fits (lt_then_lt nought epsilon (variance_of envelope) (least_above (lit< tt) flatness_plus flatness_least)
      variance_above) variance_least)

  pub flux-within : (t : ℕ) → t < length envelope → Within 176 (scaled envelope t)
  unfolding scaled_by
  flux-within t h = mul-within binary64 150 26 (lit≤ tt) (each_at t nan values h) scale_within

-- ---- the penalty

four_within : Within 9 (neg four_hundred)
unfolding neg of_bits
four_within = record { size = lit≤ tt }

pub penalty-within : (period interval : ℕ) → 1 ≤ period → period ≤ most_period → 1 ≤ interval → interval ≤ 2 * period → Within 29 (penalty period interval)
unfolding penalty
penalty-within period interval p q i j =
    let ln : Within 10 _ = log_ratio_most interval period i (omega arith) p (omega arith) in
    mul-within binary64 19 10 (lit≤ tt) (mul-within binary64 9 10 (lit≤ tt) four_within ln) ln

-- ---- scores, in whole numbers of a size K that bounds a scaled flux and a penalty alike

module _ (K : ℕ) (held : (i : ℕ) → i ≤ 2 ^ 32 → Held binary64 (i * K)) where
  pub plus_one : (i : ℕ) (x y : Float) → i < 2 ^ 32 → AtMost (i * K) x → AtMost K y → AtMost (suc i * K) (x ⊕ y)
  plus_one i x y h a b =
      let e : i * K + K ≡ suc i * K = sym (suc-mul i K) in
      subst (λ (m : ℕ). AtMost m (x ⊕ y)) e (add_most (subst (Held binary64) (sym e) (held (suc i) h)) a b)

  -- the same the other way round
  pub one_plus : (i : ℕ) (x y : Float) → i < 2 ^ 32 → AtMost K x → AtMost (i * K) y → AtMost (suc i * K) (x ⊕ y)
  one_plus i x y h a b = subst (λ (z : Float). AtMost (suc i * K) z) (add_swap binary64 y x) (plus_one i y x h b a)

module _ (K : ℕ) (held : (i : ℕ) → i ≤ 2 ^ 32 → Held binary64 (i * K)) (period : ℕ) (flux : ℕ → Float) (n : ℕ) (some : 1 ≤ period) (rows : n ≤ most_rows)
    (flux-most : (t : ℕ) → t < n → AtMost K (flux t)) (penalty-most : (i : ℕ) → 1 ≤ i → i ≤ 2 * period → AtMost K (penalty period i)) where
  -- the best extension of frame t, where the scores before it are bounded
  extra_most : (t : ℕ) → t < n → ((u : ℕ) → u < t → AtMost ((2 * u + 2) * K) (get_or (scores period flux n) u nan))
      → AtMost ((2 * t + 1) * K) (extension period (scores period flux n) t).value
  unfolding extended
  extra_most t h before = by (linked period (scores period flux n) t)
    where
      ss : List Float
      ss = scores period flux n

      by : Linked period ss t (extension period ss t) → AtMost ((2 * t + 1) * K) (extension period ss t).value
      by (unlinks e all) = subst (λ (b : Best). AtMost ((2 * t + 1) * K) b.value) (sym e) nought-most
      by (links-to u e w above most first) =
          let d = follows_below period t u some w in
          subst (λ (b : Best). AtMost ((2 * t + 1) * K) b.value) (sym e)
          (most_weaken (mul-le-mul_right K (omega arith)) (plus_one K held (2 * u + 2) (get_or ss u nan) (penalty period (t - u)) (omega arith) (before u d)
          (penalty-most (t - u) (omega arith) (omega (arith, w.from)))))

  -- so frame t's score is at most 2 t + 2 times K
  score-parts : (k t : ℕ) → t < k → t < n → AtMost ((2 * t + 2) * K) (get_or (scores period flux n) t nan)
  score-parts zero t g h = absurd (omega arith)
  score-parts (suc k) t g h =
      let e : suc (2 * t + 1) ≡ 2 * t + 2 = omega arith in
      let x = (extension period (scores period flux n) t).value in
      subst (AtMost ((2 * t + 2) * K)) (sym (score-at period flux n t some h))
      (subst (λ (i : ℕ). AtMost (i * K) (flux t ⊕ x)) e
      (one_plus K held (2 * t + 1) (flux t) x (omega arith) (flux-most t h) (extra_most t h (λ u d. score-parts k u (omega arith) (omega arith)))))

-- ---- every score of an envelope that is not refused

pub score-within : (envelope : List Float) (period : ℕ) → every value_fine envelope ≡ true → length envelope ≤ most_rows → period ≤ most_period
    → beatless envelope period ≡ false
    → (t : ℕ) → t < length envelope → Within 208 (get_or (scores_of envelope period) t nan)
unfolding scores_of
score-within envelope period fine rows long b t h =
    let live = lively envelope period b in
    let few : 2 * t + 2 ≤ 2 ^ 32 = omega arith in
    rw (pick-false (beatless envelope period) [] (scores period (scaled envelope) (length envelope)) b)
    (most_weaken (le_trans (mul-le-mul_right (2 ^ 176) few) (lit≤ tt))
    (score-parts (2 ^ 176) (λ i j. held_multiple 32 176 i (lit≤ tt) (lit≤ tt) j) period (scaled envelope) (length envelope) live.periods rows
    (flux-within envelope period fine rows live) (λ i p q. within_weaken 29 176 (lit≤ tt) (penalty-within period i live.periods long p q))
    (suc t) t (omega arith) h))

pub score-finite : (envelope : List Float) (period : ℕ) → every value_fine envelope ≡ true → length envelope ≤ most_rows → period ≤ most_period
    → beatless envelope period ≡ false
    → (t : ℕ) → t < length envelope → T (finite (get_or (scores_of envelope period) t nan))
score-finite envelope period fine rows long b t h = most-finite (score-within envelope period fine rows long b t h)
