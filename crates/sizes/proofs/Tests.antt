-- The tests of document 01's bounds decide sizes: `sized top x`, two comparisons, holds exactly where x is finite and of size at most
-- the number that top is. Assumes nothing.
use mathlib.Core.Path.{◌≡◌, refl, sym, subst}
use mathlib.Core.Bool.{true, false, not, true≢false}
use Prim.Native.Nat.{ℕ, ◌*◌, ◌^◌}
use native.Mathlib.Nat.{le_trans, le_of_eq, mul-one, zero-lt-suc}
use lib.Dec.{T}
use lib.Ieee.{Float, nan, inf, fin, up, down, neg, le, is_nan, of_bits}
use lib.Ieee.Bits.{is_true}
use lib.Ieee.Exact.{HasValue}
use lib.Ieee.Positive.{through}
use lib.Ieee.Scale.{finite}
use Rattle.numbers.specs.Limits.{sized, magnitude_fine, value_fine, similarity_fine, magnitude_top, value_top, similarity_top}
use Rattle.numbers.proofs.Tests.{and_left, and_right, and_both}
use Rattle.sizes.specs.Sizes.{size_up_to, AtMost, Within}
use Rattle.sizes.proofs.Signed.{signed→test}
use Rattle.sizes.proofs.Rounds.{neg_most}
use Rattle.sizes.proofs.Sizes.{most_not_nan, most-finite, value-most}
use Rattle.sizes.proofs.Order.{neg_anti, neg_neg}
use Rattle.sizes.proofs.Ranges.{between-most}

up_to_le : (N : ℕ) (L x : Float) → HasValue L false N 1 → size_up_to N x → T (le x L)
unfolding le
up_to_le N nan x v h = absurd v
up_to_le N (inf s) x v h = absurd v
up_to_le N (fin true n d) x v h = absurd (true≢false v.0)
up_to_le N (fin false n d) nan v h = absurd h
up_to_le N (fin false n d) (inf s) v h = absurd h
up_to_le N (fin false n d) (fin true m e) v h = signed→test true (m * up e * down d) false (n * up d * down e) tt
up_to_le N (fin false n d) (fin false m e) v h =
    signed→test false (m * up e * down d) false (n * up d * down e)
    (through (m * up e) N (n * up d) (down e) 1 (down d) (zero-lt-suc 0) (le_trans (le_of_eq (mul-one (m * up e))) h) (le_of_eq (sym v.1)))

-- ---- the order, where top is the whole number N

pub most_le : {N : ℕ} {x : Float} (top : Float) → HasValue top false N 1 → AtMost N x → le x top ≡ true
most_le {N} {x} top v h = is_true (le x top) (up_to_le N top x v h.size)

pub most_ge : {N : ℕ} {x : Float} (top : Float) → HasValue top false N 1 → AtMost N x → le (neg top) x ≡ true
most_ge {N} {x} top v h = subst (λ (z : Float). le (neg top) z ≡ true) (neg_neg x) (neg_anti (neg x) top (most_le top v (neg_most h)))

pub sized-most : {N : ℕ} (top x : Float) → HasValue top false N 1 → sized top x ≡ true → AtMost N x
sized-most {N} top x v e =
    let h : AtMost N top = value-most false N 1 (zero-lt-suc 0) v (le_of_eq (sym (mul-one N))) in
    between-most x (neg_most h) h (and_left (le (neg top) x) (le x top) e) (and_right (le (neg top) x) (le x top) e)

pub most-sized : {N : ℕ} {x : Float} (top : Float) → HasValue top false N 1 → AtMost N x → sized top x ≡ true
most-sized {N} {x} top v h = and_both (le (neg top) x) (le x top) (most_ge top v h) (most_le top v h)

-- ---- the three tests of the table

magnitude_top_lem : HasValue magnitude_top false (2 ^ 126) 1
unfolding of_bits
magnitude_top_lem = (refl, refl)

value_top_lem : HasValue value_top false (2 ^ 150) 1
unfolding of_bits
value_top_lem = (refl, refl)

similarity_top_lem : HasValue similarity_top false 1 1
unfolding of_bits
similarity_top_lem = (refl, refl)

pub magnitude_within : (x : Float) → magnitude_fine x ≡ true → Within 126 x
unfolding magnitude_fine
magnitude_within x e = sized-most magnitude_top x magnitude_top_lem e

pub within_magnitude : {x : Float} → Within 126 x → magnitude_fine x ≡ true
unfolding magnitude_fine
within_magnitude h = most-sized magnitude_top magnitude_top_lem h

pub value-within : (x : Float) → value_fine x ≡ true → Within 150 x
unfolding value_fine
value-within x e = sized-most value_top x value_top_lem e

pub within-value : {x : Float} → Within 150 x → value_fine x ≡ true
unfolding value_fine
within-value h = most-sized value_top value_top_lem h

pub similarity-most : (x : Float) → similarity_fine x ≡ true → AtMost 1 x
unfolding similarity_fine
similarity-most x e = sized-most similarity_top x similarity_top_lem e

pub most-similarity : {x : Float} → AtMost 1 x → similarity_fine x ≡ true
unfolding similarity_fine
most-similarity h = most-sized similarity_top similarity_top_lem h

-- ---- a fine value is finite, and no NaN

pub magnitude_finite : (x : Float) → magnitude_fine x ≡ true → T (finite x)
magnitude_finite x e = most-finite (magnitude_within x e)

pub value-finite : (x : Float) → value_fine x ≡ true → T (finite x)
value-finite x e = most-finite (value-within x e)

pub similarity-finite : (x : Float) → similarity_fine x ≡ true → T (finite x)
similarity-finite x e = most-finite (similarity-most x e)

pub magnitude_not_nan : (x : Float) → magnitude_fine x ≡ true → T (not (is_nan x))
magnitude_not_nan x e = most_not_nan (magnitude_within x e)

pub value_not_nan : (x : Float) → value_fine x ≡ true → T (not (is_nan x))
value_not_nan x e = most_not_nan (value-within x e)

pub similarity_not_nan : (x : Float) → similarity_fine x ≡ true → T (not (is_nan x))
similarity_not_nan x e = most_not_nan (similarity-most x e)
