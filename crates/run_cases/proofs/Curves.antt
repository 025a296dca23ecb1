-- Curves that texts spell, and slots that differ.
use mathlib.Core.Path.{◌≡◌, refl, ap}
use mathlib.Core.List.{List, [], ◌∷◌}
use Prim.Native.Nat.{ℕ, zero, suc, ◌+◌, ◌≤◌, ◌<◌, min}
use native.Mathlib.Numerals.{add-one}
use native.Mathlib.Omega.{arith}
use borrow.Author.Tests.{eq-eqb, ne_eqb, lt-ltb, le-ltb, le-leb, lt-leb}
use lib.ListN.{length, get_or, set, take, drop, drop_of_length-le}
use lib.Seq.{drop-cons}
use lib.Ieee.{Float, binary64, to_bits, nan}
use Rattle.run_cases.specs.Curves.{case_value, spelled_in, differs, differing}

-- ---- spelled

pub spelled_length : (xs : List ℕ) (vs : List Float) → length (spelled_in xs vs) ≡ length vs
unfolding spelled_in
spelled_length [] vs = refl
spelled_length (x ∷ xs) [] = refl
spelled_length (x ∷ xs) (v ∷ vs) = ap suc (spelled_length xs vs)

-- one byte more
pub spelled_step : (xs : List ℕ) (vs : List Float) (i : ℕ) → i < length xs → i < length vs
    → set (spelled_in (take i xs) vs) i (case_value (get_or xs i 0)) ≡ spelled_in (take (suc i) xs) vs
unfolding spelled_in
spelled_step [] vs i h k = absurd (omega arith)
spelled_step (x ∷ xs) [] i h k = absurd (omega arith)
spelled_step (x ∷ xs) (v ∷ vs) zero h k = refl
spelled_step (x ∷ xs) (v ∷ vs) (suc i) h k = ap (λ (l : List Float). case_value x ∷ l) (spelled_step xs vs i (omega arith) (omega arith))

-- as many bytes as both have are all that count
pub spelled_end : (xs : List ℕ) (vs : List Float) (i : ℕ) → min (length xs) (length vs) ≤ i → spelled_in (take i xs) vs ≡ spelled_in xs vs
unfolding spelled_in
spelled_end [] vs zero h = refl
spelled_end [] vs (suc i) h = refl
spelled_end (x ∷ xs) [] zero h = refl
spelled_end (x ∷ xs) [] (suc i) h = refl
spelled_end (x ∷ xs) (v ∷ vs) zero h = absurd (omega arith)
spelled_end (x ∷ xs) (v ∷ vs) (suc i) h = ap (λ (l : List Float). case_value x ∷ l) (spelled_end xs vs i (omega arith))

-- ---- differing

module _ (first past i : ℕ) (x y : Float) where
  pub differs-not : to_bits binary64 x ≡ to_bits binary64 y → 0 ≡ differs first past i x y
  unfolding differs
  differs-not e = rw (eq-eqb _ _ e)

  module _ (e : to_bits binary64 x ≡ to_bits binary64 y → ⊥) where
    pub differs-before : i < first → 1 ≡ differs first past i x y
    unfolding differs
    differs-before h = rw (ne_eqb _ _ e, lt-ltb _ _ h)

    pub differs-behind : first ≤ i → past ≤ i → 1 ≡ differs first past i x y
    unfolding differs
    differs-behind h k = rw (ne_eqb _ _ e, le-ltb _ _ h, le-leb _ _ k)

    pub differs-inside : first ≤ i → i < past → 0 ≡ differs first past i x y
    unfolding differs
    differs-inside h k = rw (ne_eqb _ _ e, le-ltb _ _ h, lt-leb _ _ k)

pub none-new : (first past i : ℕ) (xs : List Float) → differing first past i xs [] ≡ 0
unfolding differing
none-new first past i [] = refl
none-new first past i (x ∷ xs) = refl

module _ (first past : ℕ) (xs ys : List Float) (i : ℕ) where
  pub differing_step : i < length xs → i < length ys → differing first past i (drop i xs) (drop i ys) ≡ differs first past i (get_or xs i nan)
      (get_or ys i nan) + differing first past (i + 1) (drop (i + 1) xs) (drop (i + 1) ys)
  unfolding differing
  differing_step h k = rw (add-one, drop-cons xs i nan, drop-cons ys i nan)

  pub differing_old : length xs ≤ i → differing first past i (drop i xs) (drop i ys) ≡ 0
  unfolding differing
  differing_old h = rw (drop_of_length-le xs)

  pub differing-new : length ys ≤ i → differing first past i (drop i xs) (drop i ys) ≡ 0
  differing-new h = rw (drop_of_length-le ys) (none-new first past i (drop i xs))
