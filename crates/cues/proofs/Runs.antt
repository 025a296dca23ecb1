-- A test of a run of numbers, step by step. Assumes nothing.
use mathlib.Core.Path.{◌≡◌, refl, ap, ◌∙◌}
use mathlib.Core.Bool.{Bool, true, false}
use mathlib.Core.Logic.{⊎_elim}
use Prim.Native.Nat.{ℕ, zero, suc, ◌+◌, ◌-◌, ◌≤◌, ◌<◌}
use native.Mathlib.Numerals.{add-one}
use native.Mathlib.Omega.{arith}
use Rattle.numbers.proofs.Tests.{and_left, and_right, and_both, lt_or_le}
use Rattle.cue_points.specs.Chunks.{all_from}

module _ (p : ℕ → Bool) (i n : ℕ) where
  left : i < n → n - i ≡ suc (n - (i + 1))
  left h = omega arith

  pub all_pass : i < n → p i ≡ true → all_from p i (n - i) ≡ all_from p (i + 1) (n - (i + 1))
  unfolding all_from
  all_pass h e = rw (left h, e, add-one)

  pub all_fail : i < n → p i ≡ false → all_from p i (n - i) ≡ false
  unfolding all_from
  all_fail h e = rw (left h, e)

  pub all_end : n ≤ i → all_from p i (n - i) ≡ true
  unfolding all_from
  all_end h = let e : n - i ≡ 0 = omega arith in rw e

-- before the first step
pub all_start : (p : ℕ → Bool) (n : ℕ) → all_from p 0 n ≡ all_from p 0 (n - 0)
all_start p n = let e : n ≡ n - 0 = omega arith in ap (all_from p 0) e

pub all-at : (p : ℕ → Bool) (n s i : ℕ) → all_from p s n ≡ true → s ≤ i → i < s + n → p i ≡ true
unfolding all_from
all-at p zero s i e h k = absurd (omega arith)
all-at p (suc n) s i e h k =
    ⊎_elim
    (λ (u : s < i). all-at p n (suc s) i (and_right (p s) _ e) (omega arith) (omega arith))
    (λ (u : i ≤ s). let z : i ≡ s = omega arith in ap p z ∙ and_left (p s) _ e)
    (lt_or_le s i)

pub all_of : (p : ℕ → Bool) (n s : ℕ) → ((i : ℕ) → s ≤ i → i < s + n → p i ≡ true) → all_from p s n ≡ true
unfolding all_from
all_of p zero s f = refl
all_of p (suc n) s f = and_both (p s) _ (f s (omega arith) (omega arith)) (all_of p n (suc s) (λ i h k. f i (omega arith) (omega arith)))
