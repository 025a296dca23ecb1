-- Novelty: the sum one step at a time, the slots of a pair, one term, and why the order of u and v can't be seen: kernel and likeness are symmetric,
-- so the term of u and v is that of v and u.
use mathlib.Core.Path.{◌≡◌, refl, sym, ap, ◌∙◌}
use mathlib.Core.Bool.{true, false, and_comm}
use mathlib.Core.List.{List}
use mathlib.Core.Logic.{⊎_elim}
use Prim.Native.Nat.{ℕ, zero, suc, ◌+◌, ◌-◌, ◌*◌, ◌≤◌, ◌<◌}
use native.Mathlib.Nat.{le_of_lt, min_comm, max_comm, min-eq_left, min-eq_right, max-eq_left, max-eq_right}
use native.Mathlib.Numerals.{add-one}
use native.Mathlib.Omega.{arith}
use lib.Dec.{leb, ltb}
use borrow.Author.Tests.{leb-true, ltb-true, le-leb, lt-leb, lt-ltb, le-ltb}
use lib.Ieee.{Float}
use Rattle.numbers.specs.Rounded.{◌⊕◌, ◌⊗◌, nought}
use Rattle.numbers.proofs.Tests.{lt_or_le, and_left, and_right, and_both, and-held, and_failed, pick_true, pick-false}
use Rattle.kernels.specs.Kernel.{places, kernel_at}
use Rattle.novelties.specs.Novelty.{slot_of, likeness, inside, add_term, add_row, novelty_at, turns}
use Rattle.kernels.proofs.Weights.{kernel_symmetric}

-- ---- steps, one after the other

module _ {A : Type 0} (f : ℕ → A → A) where
  pub turns_next : (s e : ℕ) (x : A) → s < e → turns f s (e - s) x ≡ turns f (s + 1) (e - (s + 1)) (f s x)
  unfolding turns
  turns_next s e x h =
      let k : e - s ≡ suc (e - (s + 1)) = omega arith in
      ap (λ (n : ℕ). turns f s n x) k ∙ ap (λ (n : ℕ). turns f n (e - (s + 1)) (f s x)) (sym (add-one s))

  pub turns_end : (s e : ℕ) (x : A) → e ≤ s → turns f s (e - s) x ≡ x
  unfolding turns
  turns_end s e x h =
      let k : e - s ≡ 0 = omega arith in
      ap (λ (n : ℕ). turns f s n x) k

  -- steps that change nothing
  pub turns_skip : (s t e : ℕ) (x : A) → s ≤ t → t ≤ e → ((p : ℕ) → s ≤ p → p < t → (y : A) → f p y ≡ y) → turns f s (e - s) x ≡ turns f t (e - t) x
  turns_skip s t e x h k same = go (t - s) s x h refl same
    where
      go : (n s : ℕ) (x : A) → s ≤ t → t - s ≡ n → ((p : ℕ) → s ≤ p → p < t → (y : A) → f p y ≡ y) → turns f s (e - s) x ≡ turns f t (e - t) x
      go zero s x h l same = let z : s ≡ t = omega arith in ap (λ (n : ℕ). turns f n (e - n) x) z
      go (suc n) s x h l same =
          turns_next s e x (omega arith)
          ∙ ap (turns f (s + 1) (e - (s + 1))) (same s (omega arith) (omega arith) x)
          ∙ go n (s + 1) x (omega arith) (omega arith) (λ p b c y. same p (omega arith) c y)

-- where the steps do the same, so do all together
pub turns_same : {A : Type 0} (f g : ℕ → A → A) (s n : ℕ) (x : A) → ((p : ℕ) → s ≤ p → p < s + n → (y : A) → f p y ≡ g p y) → turns f s n x ≡ turns g s n x
unfolding turns
turns_same f g s zero x h = refl
turns_same f g s (suc n) x h =
    ap (turns f (suc s) n) (h s (omega arith) (omega arith) x)
    ∙ turns_same f g (suc s) n (g s x) (λ p l u y. h p (omega arith) (omega arith) y)

-- ---- the slot of a pair

pub slot_rising : (a b : ℕ) → a ≤ b → slot_of a b ≡ a * 17 + (b - a)
unfolding slot_of
slot_rising a b h = rw (min-eq_left h, max-eq_right h)

pub slot_falling : (a b : ℕ) → b ≤ a → slot_of a b ≡ b * 17 + (a - b)
unfolding slot_of
slot_falling a b h = rw (min-eq_right h, max-eq_left h)

-- in either order
pub slot_symmetric : (a b : ℕ) → slot_of a b ≡ slot_of b a
unfolding slot_of
slot_symmetric a b = rw (min_comm a b, max_comm a b)

-- a pair of rows at most sixteen apart has its slot inside
pub slot_below : (rows a b : ℕ) → a < rows → b < rows → a ≤ b + 16 → b ≤ a + 16 → slot_of a b < rows * 17
slot_below rows a b h k p q =
    ⊎_elim (λ (l : a < b). rw (slot_rising a b (le_of_lt l)) (omega arith)) (λ (l : b ≤ a). rw (slot_falling a b l) (omega arith)) (lt_or_le a b)

-- ---- rows inside

pub record Inside (rows i p : ℕ) : Type 0 where
  pub low : 8 ≤ i + p
  pub high : i + p < rows + 8

pub inside_is : (rows i p : ℕ) → inside rows i p ≡ true → Inside rows i p
inside_is rows i p e = record {
  low = leb-true 8 (i + p) (and_left _ _ e);
  high = ltb-true (i + p) (rows + 8) (and_right (leb 8 (i + p)) _ e);
}

pub is-inside : (rows i p : ℕ) → 8 ≤ i + p → i + p < rows + 8 → inside rows i p ≡ true
is-inside rows i p h k = and_both _ _ (le-leb 8 (i + p) h) (lt-ltb (i + p) (rows + 8) k)

-- before the first row, and past the last
pub is-before : (rows i p : ℕ) → i + p < 8 → inside rows i p ≡ false
is-before rows i p h = let e : leb 8 (i + p) ≡ false = lt-leb 8 (i + p) h in sym (and_failed (leb 8 (i + p)) (ltb (i + p) (rows + 8)) e) ∙ e

pub is-past : (rows i p : ℕ) → rows + 8 ≤ i + p → inside rows i p ≡ false
is-past rows i p h =
    sym (and-held (leb 8 (i + p)) (ltb (i + p) (rows + 8)) (le-leb 8 (i + p) (omega arith))) ∙ le-ltb (i + p) (rows + 8) h

-- ---- one term

module _ (similarity : List Float) (rows i u v : ℕ) (sum : Float) where
  pub term_added : inside rows i u ≡ true → inside rows i v ≡ true
      → add_term similarity rows i u v sum ≡ sum ⊕ kernel_at u v ⊗ likeness similarity (i + u - 8) (i + v - 8)
  unfolding add_term
  term_added h k = pick_true _ _ _ (and_both _ _ h k)

  pub term_skipped : inside rows i u ≡ false → add_term similarity rows i u v sum ≡ sum
  unfolding add_term
  term_skipped h = pick-false _ _ _ (sym (and_failed (inside rows i u) (inside rows i v) h) ∙ h)

  pub term_skipped_too : inside rows i u ≡ true → inside rows i v ≡ false → add_term similarity rows i u v sum ≡ sum
  unfolding add_term
  term_skipped_too h k = pick-false _ _ _ (sym (and-held (inside rows i u) (inside rows i v) h) ∙ k)

-- where the row of place u lies outside, none of its terms counts
pub row_skipped : (similarity : List Float) (rows i u : ℕ) (sum : Float) → inside rows i u ≡ false → add_row similarity rows i u sum ≡ sum
unfolding add_row
row_skipped similarity rows i u sum h =
    turns_skip (add_term similarity rows i u) 0 16 16 sum (omega arith) (omega arith) (λ v l k x. term_skipped similarity rows i u v x h)
    ∙ turns_end (add_term similarity rows i u) 16 16 sum (omega arith)

-- ---- the order of u and v

-- the term of places u and v is that of v and u
pub term_symmetric : (similarity : List Float) (rows i u v : ℕ) (sum : Float) → add_term similarity rows i u v sum ≡ add_term similarity rows i v u sum
unfolding add_term likeness
term_symmetric similarity rows i u v sum =
    rw (and_comm (inside rows i u) (inside rows i v), kernel_symmetric u v, slot_symmetric (i + u - 8) (i + v - 8))

-- so a sum that takes v first, then u, is the same sum, term by term
pub novelty_symmetric : (similarity : List Float) (rows i : ℕ)
    → turns (λ u sum. turns (λ v. add_term similarity rows i v u) 0 places sum) 0 places nought ≡ novelty_at similarity rows i
unfolding novelty_at add_row
novelty_symmetric similarity rows i =
    turns_same (λ u sum. turns (λ v. add_term similarity rows i v u) 0 places sum) (add_row similarity rows i) 0 places nought
    (λ u l h sum.
    turns_same (λ v. add_term similarity rows i v u) (add_term similarity rows i u) 0 places sum (λ v m k x. term_symmetric similarity rows i v u x))
