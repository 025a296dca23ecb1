-- What a patch leaves alone. A slot of the novelty depends on the similarities of the rows from eight before it to seven after it alone. So where rows a to
-- a + k - 1 are replaced, the rows further off keep their novelty.
use mathlib.Core.Path.{◌≡◌, ap, sym, ◌∙◌}
use mathlib.Core.Bool.{true, false}
use mathlib.Core.List.{List}
use mathlib.Core.Logic.{◌⊎◌, inl, inr, ⊎_elim}
use Prim.Native.Nat.{ℕ, ◌+◌, ◌-◌, ◌*◌, ◌≤◌, ◌<◌, min}
use native.Mathlib.Nat.{le_of_lt}
use native.Mathlib.Omega.{arith}
use lib.ListN.{get_or}
use lib.Ieee.{Float, nan}
use Rattle.numbers.specs.Rounded.{◌⊕◌, ◌⊗◌, nought}
use Rattle.numbers.specs.Lists.{curve, filled}
use Rattle.numbers.proofs.Tests.{which, lt_or_le}
use Rattle.numbers.proofs.Tabs.{local_curve}
use Rattle.kernels.specs.Kernel.{kernel_at}
use Rattle.row_pairs.proofs.Local.{Outside}
use Rattle.novelties.specs.Novelty.{likeness, inside, add_term, add_row, novelty_at}
use Rattle.novelties.proofs.Terms.{turns_same, slot_rising, slot_falling, Inside, inside_is, term_added, term_skipped, term_skipped_too}

-- row p lies in the kernel around row i
pub record Near (rows i p : ℕ) : Type 0 where
  pub low : i ≤ p + 8
  pub high : p < i + 8
  pub in_rows : p < rows

-- one similarity of each pair of rows in the kernel around row i, one novelty of row i
module _ (s t : List Float) (rows i : ℕ) (same : (p q : ℕ) → Near rows i p → Near rows i q → likeness t p q ≡ likeness s p q) where
  term_same : (u v : ℕ) → u < 16 → v < 16 → (sum : Float) → add_term t rows i u v sum ≡ add_term s rows i u v sum
  term_same u v h k sum = go (which (inside rows i u)) (which (inside rows i v))
    where
      near : (p : ℕ) → p < 16 → Inside rows i p → Near rows i (i + p - 8)
      near p l w = record { low = omega arith; high = omega arith; in_rows = omega arith }

      go : (inside rows i u ≡ true) ⊎ (inside rows i u ≡ false) → (inside rows i v ≡ true) ⊎ (inside rows i v ≡ false)
          → add_term t rows i u v sum ≡ add_term s rows i u v sum
      go (inl a) (inl b) =
          term_added t rows i u v sum a b
          ∙ ap (λ (x : Float). sum ⊕ kernel_at u v ⊗ x) (same (i + u - 8) (i + v - 8) (near u h (inside_is rows i u a)) (near v k (inside_is rows i v b)))
          ∙ sym (term_added s rows i u v sum a b)
      go (inl a) (inr b) = term_skipped_too t rows i u v sum a b ∙ sym (term_skipped_too s rows i u v sum a b)
      go (inr a) b = term_skipped t rows i u v sum a ∙ sym (term_skipped s rows i u v sum a)

  pub novelty-same : novelty_at t rows i ≡ novelty_at s rows i
  unfolding novelty_at add_row
  novelty-same =
      turns_same (add_row t rows i) (add_row s rows i) 0 16 nought
      (λ u l h y. turns_same (add_term t rows i u) (add_term s rows i u) 0 16 y (λ v m k x. term_same u v (omega arith) (omega arith) x))

-- the similarities of the pairs that touch none of the k rows from row a on are the same
module _ (s t : List Float) (rows a k : ℕ)
    (same : (i d : ℕ) → d < 17 → i + d < rows → Outside a k i → Outside a k (i + d) → get_or t (i * 17 + d) nan ≡ get_or s (i * 17 + d) nan) where
  likeness-kept : (p q : ℕ) → p < rows → q < rows → p < q + 17 → q < p + 17 → Outside a k p → Outside a k q → likeness t p q ≡ likeness s p q
  unfolding likeness
  likeness-kept p q h g l m u v =
      ⊎_elim
      (λ (r : p < q).
      let e : p + (q - p) ≡ q = omega arith in
      rw (slot_rising p q (le_of_lt r)) (same p (q - p) (omega arith) (omega arith) u (rw e v)))
      (λ (r : q ≤ p).
      let e : q + (p - q) ≡ p = omega arith in
      rw (slot_falling p q r) (same q (p - q) (omega arith) (omega arith) v (rw e u)))
      (lt_or_le p q)

  -- so is the novelty of a row further off
  pub novelty-kept : (i : ℕ) → (i + 8 ≤ a) ⊎ (a + k + 8 ≤ i) → novelty_at t rows i ≡ novelty_at s rows i
  novelty-kept i far =
      novelty-same s t rows i
      (λ p q near_p near-q. likeness-kept p q near_p.in_rows near-q.in_rows (apart p q near_p near-q) (apart q p near-q near_p)
      (outside p near_p far) (outside q near-q far))
    where
      apart : (p q : ℕ) → Near rows i p → Near rows i q → p < q + 17
      apart p q x y = omega arith

      outside : (p : ℕ) → Near rows i p → (i + 8 ≤ a) ⊎ (a + k + 8 ≤ i) → Outside a k p
      outside p x (inl f) = inl (omega arith)
      outside p x (inr f) = inr (omega arith)

  -- the whole curve: slots from seven rows before the first replaced row up to eight past the last, written again, make the new curve
  pub novelty_local : 0 < k → a + k ≤ rows
      → filled (novelty_at t rows) (curve (novelty_at s rows) rows) (a - 7) (min (a + k + 8) rows) ≡ curve (novelty_at t rows) rows
  novelty_local some fit =
      local_curve (novelty_at s rows) (novelty_at t rows) rows (a - 7) (min (a + k + 8) rows) nan (omega arith) (omega arith)
      (λ i h. ⊎_elim (λ (u : i < a - 7). novelty-kept i (inl (omega arith))) (λ (u : min (a + k + 8) rows ≤ i). novelty-kept i (inr (omega arith))))
