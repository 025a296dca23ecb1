-- Similarity: sums of products one at a time, and a slot from its parts.
use mathlib.Core.Path.{◌≡◌, refl, sym, ap, ◌∙◌}
use mathlib.Core.Bool.{Bool, true, false, ◌||◌}
use mathlib.Core.List.{List}
use Prim.Native.Nat.{ℕ, ◌+◌, ◌*◌, ◌/◌, ◌%◌, ◌≤◌, ◌<◌}
use native.Mathlib.Numerals.{add-one}
use native.Mathlib.Omega.{arith}
use borrow.Author.Tests.{le-leb, lt-leb}
use lib.ListN.{length, get_or, drop, drop_of_length-le}
use lib.Seq.{drop-cons}
use lib.Ieee.{Float, nan, neg}
use Rattle.numbers.specs.Rounded.{◌⊕◌, ◌⊗◌, ◌⊘◌, nought, pick, sum_from, held}
use Rattle.numbers.specs.Limits.{similarity_top}
use Rattle.numbers.proofs.Tests.{pick_true, pick-false}
use Rattle.roots.specs.Roots.{sqrt_of}
use Rattle.row_pairs.specs.Pairs.{feature_row, products, dot_of, norm_of, is_zero, settled, similarity_of, slot_at, similarity_at}

-- ---- a sum of products

pub dot_next : (sum : Float) (a b : List Float) (k : ℕ) → k < length a → k < length b
    → sum_from sum (products (drop k a) (drop k b)) ≡ sum_from (sum ⊕ get_or a k nan ⊗ get_or b k nan) (products (drop (k + 1) a) (drop (k + 1) b))
unfolding sum_from products
dot_next sum a b k h l = rw (add-one, drop-cons a k nan, drop-cons b k nan)

pub dot_end : (sum : Float) (a b : List Float) (k : ℕ) → length a ≤ k → sum_from sum (products (drop k a) (drop k b)) ≡ sum
unfolding sum_from products
dot_end sum a b k h = rw drop_of_length-le

-- ---- a choice by two tests, one after the other

pick-or : {A : Type 0} (a b : Bool) (x y : A) → pick a x (pick b x y) ≡ pick (a || b) x y
pick-or true b x y = refl
pick-or false b x y = refl

pub settle_is : (quotient norm norm' : Float)
    → pick (is_zero norm) nought (pick (is_zero norm') nought (held (neg similarity_top) similarity_top quotient)) ≡ settled quotient norm norm'
unfolding settled
settle_is quotient norm norm' = pick-or (is_zero norm) (is_zero norm') nought (held (neg similarity_top) similarity_top quotient)

-- ---- a slot

similarity-is : (dot norm norm' : Float) → similarity_of dot norm norm' ≡ settled (dot ⊘ (norm ⊗ norm')) norm norm'
unfolding similarity_of
similarity-is dot norm norm' = refl

module _ (features : List Float) (rows i d : ℕ) where
  pub slot_past : rows ≤ i + d → slot_at features rows i d ≡ nought
  unfolding slot_at
  slot_past h = pick_true _ _ _ (le-leb rows (i + d) h)

  pub slot_inside : i + d < rows
      → slot_at features rows i d
      ≡ similarity_of (dot_of (feature_row features i) (feature_row features (i + d))) (norm_of (feature_row features i)) (norm_of (feature_row features (i + d)))
  unfolding slot_at
  slot_inside h = pick-false _ _ _ (lt-leb rows (i + d) h)

  -- by its dot product and its norms
  pub slot_of_lem : i + d < rows → (dot norm norm' : Float)
      → dot ≡ dot_of (feature_row features i) (feature_row features (i + d))
      → norm ≡ norm_of (feature_row features i)
      → norm' ≡ norm_of (feature_row features (i + d))
      → settled (dot ⊘ (norm ⊗ norm')) norm norm' ≡ slot_at features rows i d
  slot_of_lem h dot norm norm' e f g =
      rw (e, f, g) (sym (slot_inside h ∙ similarity-is _ _ _))

pub dot-same : (a b a' b' : List Float) → a ≡ a' → b ≡ b' → dot_of a b ≡ dot_of a' b'
dot-same a b a' b' e f = rw (e, f)

pub norm-is : (xs : List Float) → sqrt_of (dot_of xs xs) ≡ norm_of xs
unfolding norm_of
norm-is xs = refl

-- slot (i, d) of the flat slice
pub slot_at_lem : (features : List Float) (rows i d : ℕ) → d < 17 → similarity_at features rows (i * 17 + d) ≡ slot_at features rows i d
unfolding similarity_at
slot_at_lem features rows i d h =
    let e : (i * 17 + d) / 17 ≡ i = omega arith in
    let f : (i * 17 + d) % 17 ≡ d = omega arith in
    ap (λ (k : ℕ). slot_at features rows k ((i * 17 + d) % 17)) e ∙ ap (slot_at features rows i) f
