-- The number of a list of rows: what a call's proof asks of `first_of`. Assumes nothing.
use mathlib.Core.Path.{◌≡◌, refl, ◌∙◌}
use mathlib.Core.Bool.{Bool, true, false, ◌&&◌, not}
use mathlib.Core.List.{List, [], ◌∷◌, ◌++◌}
use Prim.Native.Nat.{ℕ, ◌<◌}
use native.Mathlib.Omega.{arith}
use lib.Dec.{ltb, eqb}
use borrow.Author.Tests.{ltb-true, eqb-false, not-true}
use Rattle.numbers.specs.Refusals.{Row, unless, first_of, lowest}
use Rattle.numbers.specs.Lists.{every}
use Rattle.numbers.proofs.Tests.{and_left, and_right}

-- each test holds
abbrev pub holds : Row → Bool
holds r = r.0

-- the numbers are numbers: 0 refuses nothing
abbrev pub numbered : Row → Bool
numbered r = ltb 0 r.1

-- a row that passed leaves the rest to decide, and one that failed decides
pub first_passed : (t : Bool) (k : ℕ) (rows : List Row) → t ≡ true → first_of ((t, k) ∷ rows) ≡ first_of rows
first_passed t k rows e = rw e

pub first_failed : (t : Bool) (k : ℕ) (rows : List Row) → t ≡ false → first_of ((t, k) ∷ rows) ≡ k
first_failed t k rows e = rw e

-- rows that all hold, then one that fails: its number, whatever stands behind it
pub first-at : (before : List Row) (t : Bool) (k : ℕ) (after : List Row) → every holds before ≡ true → t ≡ false → first_of (before ++ ((t, k) ∷ after)) ≡ k
unfolding every
first-at [] t k after e f = first_failed t k after f
first-at (r ∷ before) t k after e f =
    first_passed r.0 r.1 (before ++ ((t, k) ∷ after)) (and_left r.0 _ e) ∙ first-at before t k after (and_right r.0 _ e) f

-- where all hold the number is 0
pub first-none : (rows : List Row) → every holds rows ≡ true → first_of rows ≡ 0
unfolding every
first-none [] e = refl
first-none (r ∷ rows) e = first_passed r.0 r.1 rows (and_left r.0 _ e) ∙ first-none rows (and_right r.0 _ e)

-- number 0 tells that all hold
pub first-zero : (rows : List Row) → every numbered rows ≡ true → first_of rows ≡ 0 → every holds rows ≡ true
unfolding every
first-zero [] n e = refl
first-zero (r ∷ rows) n e = go r.0 r.1 (ltb-true 0 r.1 (and_left (numbered r) _ n)) e (first-zero rows (and_right (numbered r) _ n))
  where
    go : (t : Bool) (k : ℕ) → 0 < k → unless t k (first_of rows) ≡ 0 → (first_of rows ≡ 0 → every holds rows ≡ true) → t && every holds rows ≡ true
    go true k h e f = f e
    go false k h e f = absurd (omega arith)

-- rows behind others: a number that refuses already stays, and where none does the rest decides
pub first_refused : (before after : List Row) → (first_of before ≡ 0 → ⊥) → first_of (before ++ after) ≡ first_of before
first_refused [] after h = absurd (h refl)
first_refused (r ∷ before) after h = go r.0 r.1 h (first_refused before after)
  where
    go : (t : Bool) (k : ℕ) → (unless t k (first_of before) ≡ 0 → ⊥) → ((first_of before ≡ 0 → ⊥) → first_of (before ++ after) ≡ first_of before)
        → unless t k (first_of (before ++ after)) ≡ unless t k (first_of before)
    go true k h f = f h
    go false k h f = refl

pub first_then : (before after : List Row) → every holds before ≡ true → first_of (before ++ after) ≡ first_of after
unfolding every
first_then [] after e = refl
first_then (r ∷ before) after e =
    first_passed r.0 r.1 (before ++ after) (and_left r.0 _ e) ∙ first_then before after (and_right r.0 _ e)

-- a row that holds wherever those before it do can be left out
pub first_skip : (before : List Row) (t : Bool) (k : ℕ) (after : List Row) → (every holds before ≡ true → t ≡ true)
    → first_of (before ++ ((t, k) ∷ after)) ≡ first_of (before ++ after)
unfolding every
first_skip [] t k after h = first_passed t k after (h refl)
first_skip (r ∷ before) t k after h =
    go r.0 r.1 h (λ g. first_skip before t k after g)
  where
    go : (b : Bool) (n : ℕ) → (b && every holds before ≡ true → t ≡ true)
        → ((every holds before ≡ true → t ≡ true) → first_of (before ++ ((t, k) ∷ after)) ≡ first_of (before ++ after))
        → unless b n (first_of (before ++ ((t, k) ∷ after))) ≡ unless b n (first_of (before ++ after))
    go true n h f = f h
    go false n h f = refl

-- the number is 0 or one of the rows'
pub first-among : (rows : List Row) (k : ℕ) → every (λ (r : Row). not (eqb r.1 k)) rows ≡ true → 0 < k → first_of rows ≡ k → ⊥
unfolding every
first-among [] k n h e = omega arith
first-among (r ∷ rows) k n h e = go r.0 r.1 (and_left (not (eqb r.1 k)) _ n) e (first-among rows k (and_right (not (eqb r.1 k)) _ n) h)
  where
    go : (t : Bool) (m : ℕ) → not (eqb m k) ≡ true → unless t m (first_of rows) ≡ k → (first_of rows ≡ k → ⊥) → ⊥
    go true m d e f = f e
    go false m d e f = eqb-false m k (not-true (eqb m k) d) e

-- document 01's order is the list's
pub lowest-first : (b l r v : Bool) → lowest b l r v ≡ first_of ((b, 1) ∷ (l, 2) ∷ (r, 3) ∷ (v, 4) ∷ [])
lowest-first b l r v = refl
