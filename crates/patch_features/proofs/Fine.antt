-- Genuine curves of fine rows are fine, so that a patch's number 4 never refuses one. Of a similarity `row_pairs` says it; a novelty is a sum of at
-- most 256 terms, each a weight of the kernel times a similarity, and neither is above 1 in size.
use mathlib.Core.Bool.{Bool, true, false, ◌&&◌}
use mathlib.Core.List.{List}
use mathlib.Core.Path.{◌≡◌, refl, sym, subst}
use Prim.Native.Nat.{ℕ, zero, suc, ◌+◌, ◌-◌, ◌*◌, ◌≤◌, ◌<◌}
use native.Mathlib.Nat.{mul-one, lt_of_le_of_lt}
use native.Mathlib.Numerals.{add-one}
use native.Mathlib.Omega.{arith}
use lib.Dec.{lit≤, lit<}
use lib.Ieee.{Float, nan, binary64, of_bits, neg, le}
use lib.ListN.{length, get_or}
use Rattle.numbers.proofs.Everys.{every-at, every-tab}
use Rattle.numbers.proofs.Tabs.{length-tab}
use Rattle.numbers.proofs.Tests.{and_left, and_right}
use Rattle.numbers.specs.Limits.{value_fine, similarity_fine}
use Rattle.numbers.specs.Lists.{every}
use Rattle.numbers.specs.Rounded.{◌⊕◌, ◌⊗◌, nought, pick, one}
use Rattle.sizes.proofs.Sizes.{add_most, mul_most, nought-most, pick-most, most_weaken}
use Rattle.sizes.proofs.Tests.{similarity-most, within-value}
use Rattle.sizes.specs.Sizes.{AtMost, Held}
use Rattle.kernels.proofs.Weights.{weight-fine}
use Rattle.row_pairs.proofs.Fine.{similarities_fine}
use Rattle.novelties.proofs.Terms.{inside_is, slot_below}
use Rattle.kernels.specs.Kernel.{away, alike, sign_at, weight_of, kernel_at}
use Rattle.novelties.specs.Novelty.{slot_of, likeness, inside, turns, add_term, add_row, novelty_at}
use Rattle.row_pairs.specs.Pairs.{similarity_at}
use Rattle.patch_features.specs.Features.{pairs}
use Rattle.patch_features.specs.Runs.{similarity_curve, novelty_curve}

-- ---- the kernel

one-fine : similarity_fine one ≡ true
unfolding similarity_fine le neg of_bits
one-fine = refl

less_fine : similarity_fine (neg one) ≡ true
unfolding similarity_fine le neg of_bits
less_fine = refl

-- the format holds a small whole number
held_small : (n : ℕ) → n ≤ 256 → Held binary64 n
held_small n h = record { q = n; j = 0; few = lt_of_le_of_lt h (lit< tt); under = lt_of_le_of_lt h (lit< tt); is = sym (mul-one n) }

kernel_most : (u v : ℕ) → u < 16 → v < 16 → AtMost 1 (kernel_at u v)
unfolding kernel_at sign_at
kernel_most u v h k =
    mul_most {N = 1} {M = 1} (held_small 1 (lit≤ tt)) (pick-most (alike u v) (similarity-most one one-fine) (similarity-most (neg one) less_fine))
    (similarity-most (weight_of (away u * away u + away v * away v)) (weight-fine u v h k))

-- ---- a sum

turns_keeps : {A : Type 0} (P : ℕ → A → Type 0) (f : ℕ → A → A) (s n : ℕ) (x : A) → ((k : ℕ) (y : A) → s ≤ k → k < s + n → P k y → P (k + 1) (f k y)) → P s x
    → P (s + n) (turns f s n x)
unfolding turns
turns_keeps P f s zero x h p =
    let e : s ≡ s + 0 = omega arith in
    subst (λ (k : ℕ). P k x) e p
turns_keeps P f s (suc n) x h p =
    let e : suc s + n ≡ s + suc n = omega arith in
    subst (λ (k : ℕ). P k (turns f (suc s) n (f s x))) e
    (turns_keeps P f (suc s) n (f s x) (λ k y l m. h k y (omega arith) (omega arith))
    (subst (λ (k : ℕ). P k (f s x)) (add-one s) (h s x (omega arith) (omega arith) p)))

module _ (c : List Float) (rows : ℕ) (whole : length c ≡ rows * 17) (fine : every similarity_fine c ≡ true) (i : ℕ) where
  likeness-most : (x y : ℕ) → x < rows → y < rows → x ≤ y + 16 → y ≤ x + 16 → AtMost 1 (likeness c x y)
  unfolding likeness
  likeness-most x y h k p q =
      let inside : slot_of x y < length c = subst (λ (n : ℕ). slot_of x y < n) (sym whole) (slot_below rows x y h k p q) in
      similarity-most (get_or c (slot_of x y) nan) (every-at similarity_fine c (slot_of x y) nan fine inside)

  -- a term more
  term_most : (n u v : ℕ) (sum : Float) → n < 256 → u < 16 → v < 16 → AtMost n sum → AtMost (n + 1) (add_term c rows i u v sum)
  unfolding add_term
  term_most n u v sum few hu hv h = go (inside rows i u && inside rows i v) refl
    where
      go : (t : Bool) → (inside rows i u && inside rows i v) ≡ t → AtMost (n + 1) (pick t (sum ⊕ kernel_at u v ⊗ likeness c (i + u - 8) (i + v - 8)) sum)
      go false e = most_weaken (omega arith) h
      go true e =
          let p = inside_is rows i u (and_left (inside rows i u) _ e) in
          let q = inside_is rows i v (and_right (inside rows i u) _ e) in
          let l : AtMost 1 (likeness c (i + u - 8) (i + v - 8)) =
          likeness-most (i + u - 8) (i + v - 8) (omega arith) (omega arith) (omega arith) (omega arith) in
          let t : AtMost 1 (kernel_at u v ⊗ likeness c (i + u - 8) (i + v - 8)) = mul_most {N = 1} {M = 1} (held_small 1 (lit≤ tt)) (kernel_most u v hu hv) l in
          add_most (held_small (n + 1) (omega arith)) h t

  row-most : (u : ℕ) (sum : Float) → u < 16 → AtMost (u * 16) sum → AtMost ((u + 1) * 16) (add_row c rows i u sum)
  unfolding add_row
  row-most u sum hu h =
      let e : u * 16 + (0 + 16) ≡ (u + 1) * 16 = omega arith in
      let z : u * 16 ≡ u * 16 + 0 = omega arith in
      subst (λ (n : ℕ). AtMost n (turns (add_term c rows i u) 0 16 sum)) e
      (turns_keeps (λ v x. AtMost (u * 16 + v) x) (add_term c rows i u) 0 16 sum
      (λ v x l m a.
      let g : u * 16 + v + 1 ≡ u * 16 + (v + 1) = omega arith in
      subst (λ (n : ℕ). AtMost n (add_term c rows i u v x)) g (term_most (u * 16 + v) u v x (omega arith) hu m a))
      (subst (λ (n : ℕ). AtMost n sum) z h))

  pub novelty-most : AtMost 256 (novelty_at c rows i)
  unfolding novelty_at
  novelty-most = turns_keeps (λ u x. AtMost (u * 16) x) (add_row c rows i) 0 16 nought (λ u x l m a. row-most u x m a) nought-most

-- ---- the curves

module _ (rows : ℕ) (features : List Float) (whole : length features ≡ rows * 16) (fine : every value_fine features ≡ true) where
  pub similarities_are_fine : every similarity_fine (similarity_curve rows features) ≡ true
  unfolding similarity_curve
  similarities_are_fine = similarities_fine features rows whole fine

  pub novelties_are_fine : every value_fine (novelty_curve rows features) ≡ true
  unfolding novelty_curve similarity_curve
  novelties_are_fine =
      every-tab value_fine (novelty_at (similarity_curve rows features) rows) 0 rows
      (λ i p q.
      within-value (most_weaken (lit≤ tt) (novelty-most (similarity_curve rows features) rows (length-tab (similarity_at features rows) 0 (pairs rows))
      similarities_are_fine i)))
