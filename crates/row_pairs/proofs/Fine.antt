-- A genuine similarity lies within -1 to 1, so that novelty's number 4 never refuses one: `similarity-fine` of a slot, `similarities_fine` of all.
-- Within the bounds a dot product is finite; a norm above 0 is at least 2 ^ -537, so the product of two is above 0; so the quotient is no NaN.
use mathlib.Core.Path.{◌≡◌, refl, sym, ap, ◌∙◌}
use mathlib.Core.Bool.{Bool, true, false, not, ◌||◌}
use mathlib.Core.List.{List, [], ◌∷◌}
use mathlib.Core.Logic.{◌⊎◌, inl, inr}
use Prim.Native.Nat.{ℕ, ◌+◌, ◌*◌, ◌/◌, ◌%◌, ◌^◌, ◌≤◌, ◌<◌}
use native.Mathlib.Nat.{le_trans, le_of_eq, one-mul}
use native.Mathlib.Omega.{arith}
use lib.Dec.{T, lit≤, lit<}
use lib.ListN.{length}
use lib.Pow.{pow-add}
use lib.Ieee.{Float, binary64, neg, lt, le, eq, is_nan, fits, of_bits}
use lib.Ieee.Fits.{add-fits}
use Rattle.numbers.specs.Rounded.{◌⊕◌, ◌⊗◌, ◌⊘◌, nought, pick, sum_from, held}
use Rattle.numbers.specs.Limits.{feature_width, value_fine, similarity_top, similarity_fine}
use Rattle.numbers.specs.Lists.{every, curve}
use Rattle.numbers.proofs.Tests.{which, lt_or_le, true_not_false, and_both}
use Rattle.numbers.proofs.Overs.{length-row, every-row}
use Rattle.numbers.proofs.Everys.{every-tab}
use Rattle.sizes.specs.Sizes.{Within, AtLeast, Plus, Each, none, more}
use Rattle.sizes.proofs.Sizes.{mul-within, most-finite, most_not_nan}
use Rattle.sizes.proofs.Lists.{values-within}
use Rattle.sizes.proofs.Sums.{sum-within}
use Rattle.sizes.proofs.Signs.{square_plus, sum_plus, plus_from_nought}
use Rattle.sizes.proofs.Least.{mul-above}
use Rattle.sizes.proofs.Order.{le_self, le_left, le_right, le_both, not_lt}
use Rattle.sizes.proofs.Monotone.{div_mono_left}
use Rattle.sizes.proofs.Ranges.{held_low, held_high}
use Rattle.roots.proofs.Roots.{sqrt_plus, sqrt_within, sqrt_least_any}
use Rattle.roots.proofs.Floats.{sqrt_nought}
use Rattle.row_pairs.specs.Pairs.{feature_row, products, dot_of, norm_of, is_zero, settled, slot_at, similarity_at}
use Rattle.row_pairs.proofs.Slots.{slot_past, slot_of_lem, norm-is}

-- ---- dot products

products-within : {xs ys : List Float} → Each (Within 150) xs → Each (Within 150) ys → Each (Within 300) (products xs ys)
unfolding products
products-within none k = none
products-within (more a h) none = none
products-within (more a h) (more b k) = more (mul-within binary64 150 150 (lit≤ tt) a b) (products-within h k)

length-products : (xs ys : List Float) → length (products xs ys) ≤ length xs
unfolding products
length-products [] ys = omega arith
length-products (x ∷ xs) [] = omega arith
length-products (x ∷ xs) (y ∷ ys) = omega (arith, length-products xs ys)

squares_plus : {xs : List Float} → Each (Within 150) xs → Each Plus (products xs xs)
unfolding products
squares_plus none = none
squares_plus (more {x = x} a h) = more (square_plus binary64 x (most_not_nan a)) (squares_plus h)

sum_fits : (acc : Float) (xs : List Float) → T (fits binary64 acc) → T (fits binary64 (sum_from acc xs))
unfolding sum_from
sum_fits acc [] h = h
sum_fits acc (x ∷ xs) h = sum_fits (acc ⊕ x) xs (add-fits binary64 acc x)

nought-fits : T (fits binary64 nought)
unfolding of_bits fits
nought-fits = tt

-- a row within the bounds: at most sixteen values, each finite and of size at most 2 ^ 150
pub record Row (xs : List Float) : Type 0 where
  pub fine : every value_fine xs ≡ true
  pub width : length xs ≤ feature_width

values : {xs : List Float} → Row xs → Each (Within 150) xs
values {xs} h = values-within xs h.fine

dot-within : {xs ys : List Float} → Row xs → Row ys → Within 304 (dot_of xs ys)
unfolding dot_of
dot-within {xs} {ys} h k =
    sum-within 4 300 (lit≤ tt) (lit≤ tt) (le_trans (length-products xs ys) h.width) (products-within (values h) (values k))

dot-fits : (xs ys : List Float) → T (fits binary64 (dot_of xs ys))
unfolding dot_of
dot-fits xs ys = sum_fits nought (products xs ys) nought-fits

own_plus : {xs : List Float} → Row xs → Plus (dot_of xs xs)
unfolding dot_of
own_plus h = sum_plus (squares_plus (values h))

-- ---- norms

-- a row whose norm isn't 0 has squares above 0
squares_above : {xs : List Float} → Row xs → is_zero (norm_of xs) ≡ false → lt nought (dot_of xs xs) ≡ true
unfolding is_zero
squares_above {xs} h z = go (which (lt nought (dot_of xs xs)))
  where
    x : Float
    x = dot_of xs xs

    go : (lt nought x ≡ true) ⊎ (lt nought x ≡ false) → lt nought x ≡ true
    go (inl e) = e
    go (inr e) =
        let p : Plus x = own_plus h in
        let from : le nought x ≡ true = plus_from_nought p in
        let to : le x nought ≡ true = not_lt nought x (le_left nought x from) (le_right nought x from) e in
        let zero_is : eq x nought ≡ true = le_both x nought to from in
        let root_is : norm_of xs ≡ x = sym (norm-is xs) ∙ sqrt_nought x e zero_is in
        true_not_false (eq (norm_of xs) nought) (ap (λ (y : Float). eq y nought) root_is ∙ zero_is) z

-- the norm of such a row
record Norm (m : Float) : Type 0 where
  plus : Plus m
  most : Within 152 m
  least : AtLeast 1 (2 ^ 537) m

norm_of_lem : {xs : List Float} → Row xs → is_zero (norm_of xs) ≡ false → Norm (norm_of xs)
norm_of_lem {xs} h z =
    let x = dot_of xs xs in
    let a : lt nought x ≡ true = squares_above h z in
    let f : T (fits binary64 x) = dot-fits xs xs in
    rw (← norm-is xs) (record { plus = sqrt_plus x f a; most = sqrt_within 152 f a (dot-within h h); least = sqrt_least_any x f a })

-- ---- two rows whose norms aren't 0

module _ {xs ys : List Float} (h : Row xs) (k : Row ys) (some : is_zero (norm_of xs) ≡ false) (some' : is_zero (norm_of ys) ≡ false) where
  -- the product of the norms is above 0
  pub norms_above : lt nought (norm_of xs ⊗ norm_of ys) ≡ true
  norms_above =
      let a = norm_of_lem h some in
      let b = norm_of_lem k some' in
      mul-above (lit< tt) (lit< tt) (le_of_eq (sym (pow-add 2 537 537) ∙ sym (one-mul (2 ^ 1074)))) (most-finite a.most) (most-finite b.most)
      a.plus b.plus a.least b.least

  -- so the quotient is no NaN
  pub quotient_not_nan : T (not (is_nan (dot_of xs ys ⊘ (norm_of xs ⊗ norm_of ys))))
  quotient_not_nan =
      let dot = dot_of xs ys in
      let over = norm_of xs ⊗ norm_of ys in
      let w : Within 304 over = mul-within binary64 152 152 (lit≤ tt) (norm_of_lem h some).most (norm_of_lem k some').most in
      le_left (dot ⊘ over) (dot ⊘ over)
      (div_mono_left binary64 dot dot over (most-finite w) norms_above (le_self dot (most_not_nan (dot-within h k))))

-- ---- held to -1..1

top_above : le (neg similarity_top) similarity_top ≡ true
unfolding le neg of_bits
top_above = refl

held-fine : (x : Float) → T (not (is_nan x)) → similarity_fine (held (neg similarity_top) similarity_top x) ≡ true
unfolding similarity_fine
held-fine x h = and_both _ _ (held_low (neg similarity_top) similarity_top x h top_above) (held_high (neg similarity_top) similarity_top x h top_above)

nought-fine : similarity_fine nought ≡ true
unfolding similarity_fine le neg of_bits
nought-fine = refl

settled-fine : {xs ys : List Float} → Row xs → Row ys
    → similarity_fine (settled (dot_of xs ys ⊘ (norm_of xs ⊗ norm_of ys)) (norm_of xs) (norm_of ys)) ≡ true
unfolding settled
settled-fine {xs} {ys} h k = go (is_zero (norm_of xs)) (is_zero (norm_of ys)) refl refl
  where
    q : Float
    q = dot_of xs ys ⊘ (norm_of xs ⊗ norm_of ys)

    go : (a b : Bool) → is_zero (norm_of xs) ≡ a → is_zero (norm_of ys) ≡ b
        → similarity_fine (pick (a || b) nought (held (neg similarity_top) similarity_top q)) ≡ true
    go true b e f = nought-fine
    go false true e f = nought-fine
    go false false e f = held-fine q (quotient_not_nan h k e f)

-- ---- every slot

module _ (features : List Float) (rows : ℕ) (whole : length features ≡ rows * 16) (fine : every value_fine features ≡ true) where
  pub fine-row : (i : ℕ) → i < rows → Row (feature_row features i)
  fine-row i h = record { fine = every-row value_fine features 16 i fine; width = le_of_eq (length-row features rows 16 i whole h) }

  -- slot (i, d)
  pub slot_fine : (i d : ℕ) → i < rows → similarity_fine (slot_at features rows i d) ≡ true
  slot_fine i d h = go (lt_or_le (i + d) rows)
    where
      go : (i + d < rows) ⊎ (rows ≤ i + d) → similarity_fine (slot_at features rows i d) ≡ true
      go (inl k) =
          rw (← slot_of_lem features rows i d k _ _ _ refl refl refl) (settled-fine (fine-row i h) (fine-row (i + d) k))
      go (inr k) = rw (slot_past features rows i d k) nought-fine

  -- slot k of the flat slice
  pub similarity-fine : (k : ℕ) → k < rows * 17 → similarity_fine (similarity_at features rows k) ≡ true
  unfolding similarity_at
  similarity-fine k h = slot_fine (k / 17) (k % 17) (omega arith)

  -- all of them
  pub similarities_fine : every similarity_fine (curve (similarity_at features rows) (rows * 17)) ≡ true
  similarities_fine = every-tab similarity_fine (similarity_at features rows) 0 (rows * 17) (λ k l h. similarity-fine k (omega arith))
