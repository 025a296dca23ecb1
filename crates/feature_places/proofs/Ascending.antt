-- Rows belong to feature rows in ascending order: each operation on the way from a row's number to its feature row keeps the order (`place_mono`). So the rows
-- of one feature row lie together, which lets each feature row be summed and written at once.
use mathlib.Core.Path.{◌≡◌, refl, ◌∙◌}
use mathlib.Core.Bool.{true, false}
use Prim.Native.Nat.{ℕ, ◌+◌, ◌-◌, ◌*◌, ◌/◌, ◌^◌, ◌≤◌, ◌<◌}
use native.Mathlib.Nat.{
  le_trans,
  le_of_eq,
  le_refl,
  mul_assoc,
  mul_comm,
  mul_right_comm,
  mul-le-mul_right,
  mul-one,
  one-mul,
  div-mul-le_self,
  le-div_iff_mul-le,
  le_of_mul-le-mul_right,
  zero-div,
  zero-lt-suc,
}
use native.Mathlib.Omega.{arith}
use lib.Dec.{T, lit≤, lit<}
use lib.Ieee.{Float, nan, inf, fin, up, down, binary64, lt, le, to_unsigned, of_bits}
use lib.Ieee.Fits.{down_pos}
use lib.Ieee.Exact.{HasValue}
use lib.Ieee.Scale.{finite}
use borrow.Author.Tests.{le-leb}
use Rattle.numbers.specs.Rounded.{◌⊕◌, ◌⊗◌, ◌⊘◌, nought, real, thousand}
use Rattle.numbers.specs.Limits.{most_rate, most_rows, most_length}
use Rattle.sizes.specs.Sizes.{AtMost, AtLeast, Plus}
use Rattle.sizes.proofs.Numbers.{held_power, held_part, held_short}
use Rattle.sizes.proofs.Sizes.{most-finite, add_most, mul_most, div_most, value-most, real-most}
use Rattle.sizes.proofs.Signed.{test→signed, null}
use Rattle.sizes.proofs.Signs.{real_plus, div_plus, above_plus}
use Rattle.sizes.proofs.Order.{true→T, le_real}
use Rattle.sizes.proofs.Least.{real-least, value-least, least_above, div-least, mul-above}
use Rattle.sizes.proofs.Monotone.{add_mono_left, mul_mono_left, div_mono_left}
use Rattle.sections.specs.Boundaries.{frame_ms}
use Rattle.feature_places.specs.declared.FeatureGrid.{FeatureGrid}
use Rattle.feature_places.specs.Places.{feature_hop, feature_centre, centre_ms, feature_row_of}

-- ---- cutting to a whole number keeps the order

quotients : (a p b q : ℕ) → 0 < p → 0 < q → a * q ≤ b * p → a / p ≤ b / q
quotients a p b q P Q h =
    (le-div_iff_mul-le Q).1
    (le_of_mul-le-mul_right
    (le_trans (le_of_eq (mul_right_comm (a / p) q p)) (le_trans (mul-le-mul_right q (div-mul-le_self a p)) h))
    P)

cut_of : (x y : Float) → T (le x y) → to_unsigned 64 x ≤ to_unsigned 64 y
unfolding le to_unsigned
cut_of nan y h = absurd h
cut_of (inf true) y h = omega arith
cut_of (inf false) nan h = absurd h
cut_of (inf false) (inf true) h = absurd h
cut_of (inf false) (inf false) h = le_refl _
cut_of (inf false) (fin t n d) h = absurd h
cut_of (fin true m e) y h = omega arith
cut_of (fin false m e) nan h = absurd h
cut_of (fin false m e) (inf true) h = absurd h
cut_of (fin false m e) (inf false) h = omega arith
cut_of (fin false m e) (fin true n d) h =
    let s : m * up e * down d + n * up d * down e ≡ 0 = test→signed false (m * up e * down d) true (n * up d * down e) h in
    let z : m * up e ≡ 0 = null (m * up e) (down d) (down_pos d) (omega arith) in
    let q : m * up e / down e ≡ 0 = rw z (zero-div (down e)) in
    omega arith
cut_of (fin false m e) (fin false n d) h =
    let q : m * up e / down e ≤ n * up d / down d =
    quotients (m * up e) (down e) (n * up d) (down d) (down_pos e) (down_pos d) (test→signed false (m * up e * down d) false (n * up d * down e) h) in
    omega arith

pub cut_mono : (x y : Float) → le x y ≡ true → to_unsigned 64 x ≤ to_unsigned 64 y
cut_mono x y h = cut_of x y (true→T (le x y) h)

-- ---- constants

hop-value : HasValue feature_hop false 1024 1
unfolding of_bits
hop-value = (refl, refl)

centre-value : HasValue feature_centre false 2048 1
unfolding of_bits
centre-value = (refl, refl)

thousand-value : HasValue thousand false 1000 1
unfolding of_bits
thousand-value = (refl, refl)

hop-finite : T (finite feature_hop)
unfolding of_bits
hop-finite = tt

hop-from : le nought feature_hop ≡ true
unfolding le of_bits
hop-from = refl

centre-finite : T (finite feature_centre)
unfolding of_bits
centre-finite = tt

thousand-finite : T (finite thousand)
unfolding of_bits
thousand-finite = tt

thousand-from : le nought thousand ≡ true
unfolding le of_bits
thousand-from = refl

thousand_plus : Plus thousand
thousand_plus = above_plus thousand above
  where
    above : lt nought thousand ≡ true
    above = unfold lt of_bits in refl

thousand-most : AtMost 1000 thousand
thousand-most = value-most false 1000 1 (zero-lt-suc 0) thousand-value (lit≤ tt)

thousand-least : AtLeast 1000 1 thousand
thousand-least = value-least false 1000 1 (zero-lt-suc 0) thousand-value (lit≤ tt)

-- ---- rates

rate_least : (rate : ℕ) → 1 ≤ rate → rate ≤ most_rate → AtLeast 1 1 (real rate)
rate_least rate h k = real-least rate (le_trans k (lit≤ tt)) (omega arith)

rate_above : (rate : ℕ) → 1 ≤ rate → rate ≤ most_rate → lt nought (real rate) ≡ true
rate_above rate h k = least_above (zero-lt-suc 0) (real_plus rate) (rate_least rate h k)

rate_finite : (rate : ℕ) → rate ≤ most_rate → T (finite (real rate))
rate_finite rate k = most-finite (real-most {N = most_rate} rate (le_trans k (lit≤ tt)) k)

-- ---- a feature row's time is above 0 and finite

module _ (grid : FeatureGrid) (r₁ : 1 ≤ grid.rate) (r₂ : grid.rate ≤ most_rate) (l₁ : 1 ≤ grid.length) (l₂ : grid.length ≤ most_length) where
  length_most : AtMost (2 ^ 31) (real grid.length)
  length_most = real-most grid.length (le_trans l₂ (lit≤ tt)) l₂

  over-most : AtMost (2 ^ 31) (real grid.length ⊘ real grid.rate)
  over-most = div_most (zero-lt-suc 0) (held_power 31 (lit≤ tt)) (le_of_eq refl) length_most (rate_least grid.rate r₁ r₂)

  frame_most : AtMost (2 ^ 31 * 1000) (frame_ms grid.length grid.rate)
  unfolding frame_ms
  frame_most = mul_most (held_short (lit< tt)) over-most thousand-most

  pub frame_finite : T (finite (frame_ms grid.length grid.rate))
  frame_finite = most-finite frame_most

  over-least : AtLeast 1 (2 ^ 18) (real grid.length ⊘ real grid.rate)
  over-least =
      div-least {M = most_rate} (zero-lt-suc 0) (lit< tt) (held_part 18 (lit≤ tt)) (lit≤ tt)
      (real-least {p = 1} {q = 1} grid.length (le_trans l₂ (lit≤ tt)) (omega arith))
      (real-most grid.rate (le_trans r₂ (lit≤ tt)) r₂)

  over_plus : Plus (real grid.length ⊘ real grid.rate)
  over_plus = div_plus binary64 (real grid.rate) (most-finite length_most) (real_plus grid.length) (rate_above grid.rate r₁ r₂)

  pub frame_above : lt nought (frame_ms grid.length grid.rate) ≡ true
  unfolding frame_ms
  frame_above =
      mul-above (zero-lt-suc 0) (lit< tt) (lit≤ tt) (most-finite over-most) thousand-finite over_plus thousand_plus over-least thousand-least

  -- ---- the order, step by step

  row-most : (t : ℕ) → t ≤ most_rows → AtMost (2 ^ 20) (real t)
  row-most t h = real-most t (le_trans h (lit≤ tt)) h

  hops_most : (t : ℕ) → t ≤ most_rows → AtMost (2 ^ 20 * 1024) (real t ⊗ feature_hop)
  hops_most t h = mul_most {M = 1024} (held_short (lit< tt)) (row-most t h) (value-most false 1024 1 (zero-lt-suc 0) hop-value (lit≤ tt))

  samples_most : (t : ℕ) → t ≤ most_rows → AtMost (2 ^ 20 * 1024 + 2048) (real t ⊗ feature_hop ⊕ feature_centre)
  samples_most t h = add_most {M = 2048} (held_short (lit< tt)) (hops_most t h) (value-most false 2048 1 (zero-lt-suc 0) centre-value (lit≤ tt))

  seconds_finite : (t : ℕ) → t ≤ most_rows → T (finite ((real t ⊗ feature_hop ⊕ feature_centre) ⊘ real grid.rate))
  seconds_finite t h =
      most-finite (div_most {R = 2 ^ 31} (zero-lt-suc 0) (held_power 31 (lit≤ tt)) (lit≤ tt) (samples_most t h) (rate_least grid.rate r₁ r₂))

  pub centre_mono : (t u : ℕ) → t ≤ u → u ≤ most_rows → le (centre_ms grid.rate t) (centre_ms grid.rate u) ≡ true
  unfolding centre_ms
  centre_mono t u h k =
      let j : t ≤ most_rows = le_trans h k in
      let a : le (real t) (real u) ≡ true = le_real t u (le_trans j (lit≤ tt)) (le_trans k (lit≤ tt)) ∙ le-leb t u h in
      let b = mul_mono_left binary64 (real t) (real u) feature_hop (most-finite (row-most t j)) (most-finite (row-most u k)) hop-finite hop-from a in
      let d = add_mono_left binary64 (real t ⊗ feature_hop) (real u ⊗ feature_hop) feature_centre centre-finite b in
      let e = div_mono_left binary64 (real t ⊗ feature_hop ⊕ feature_centre) (real u ⊗ feature_hop ⊕ feature_centre) (real grid.rate)
      (rate_finite grid.rate r₂) (rate_above grid.rate r₁ r₂) d in
      mul_mono_left binary64 _ _ thousand (seconds_finite t j) (seconds_finite u k) thousand-finite thousand-from e

  pub place_mono : (t u : ℕ) → t ≤ u → u ≤ most_rows → feature_row_of grid t ≤ feature_row_of grid u
  unfolding feature_row_of
  place_mono t u h k =
      let q = cut_mono _ _ (div_mono_left binary64 (centre_ms grid.rate t) (centre_ms grid.rate u) (frame_ms grid.length grid.rate)
      frame_finite frame_above (centre_mono t u h k)) in
      omega arith

  -- no row's feature row is past the last
  pub place-under : (t : ℕ) → 1 ≤ grid.count → feature_row_of grid t < grid.count
  unfolding feature_row_of
  place-under t h = omega arith
