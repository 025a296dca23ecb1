-- Whole rows: what the test of number 2 says, and what it asks for.
use mathlib.Core.Bool.{true}
use mathlib.Core.List.{List, [], ◌∷◌}
use mathlib.Core.Logic.{⊎_elim}
use mathlib.Core.Path.{◌≡◌, refl, sym, ◌∙◌}
use Prim.Native.Nat.{ℕ, ◌+◌, ◌-◌, ◌*◌, ◌/◌, ◌%◌, ◌≤◌, ◌<◌}
use native.Mathlib.Nat.{div-add-mod', mul-mod_left, mul-div_cancel}
use native.Mathlib.Omega.{arith}
use borrow.Author.Tests.{leb-true, eqb-true, le-leb, lt-leb, eq-eqb}
use lib.Dec.{leb, eqb}
use lib.ListN.{length}
use lib.Ieee.{Float}
use Rattle.numbers.proofs.Tests.{and_left, and_right, and_both, and-held, lt_or_le}
use Rattle.patches.specs.Patches.{new_rows, whole_rows, unless_empty}

-- what the test of the new rows says
pub record NewRows (rows width start added : ℕ) : Type 0 where
  pub new-whole : added ≡ added / width * width
  pub inside : start + added / width ≤ rows

pub new_told : (rows width start added : ℕ) → new_rows rows width start added ≡ true → NewRows rows width start added
unfolding new_rows
new_told rows width start added e =
    record {
      new-whole = omega (arith, div-add-mod' added width, eqb-true (added % width) 0 (and_left (eqb (added % width) 0) _ e));
      inside = leb-true _ _ (and_right (eqb (added % width) 0) _ e);
    }

-- k rows that end inside pass it
pub new_asked : (rows width start k : ℕ) → 1 ≤ width → start + k ≤ rows → new_rows rows width start (k * width) ≡ true
unfolding new_rows
new_asked rows width start k w h =
    let d : k * width / width ≡ k = mul-div_cancel k w in
    and_both (eqb (k * width % width) 0) _ (eq-eqb _ _ (mul-mod_left k width)) (le-leb (start + k * width / width) rows (omega arith))

-- the last of its tests, as code makes it
pub fits_left : (rows width start added : ℕ) → start ≤ rows → added % width ≡ 0 → leb (added / width) (rows - start) ≡ new_rows rows width start added
unfolding new_rows
fits_left rows width start added h z = go (added / width) ∙ and-held (eqb (added % width) 0) _ (eq-eqb _ _ z)
  where
    go : (k : ℕ) → leb k (rows - start) ≡ leb (start + k) rows
    go k =
        ⊎_elim
        (λ (u : rows - start < k). lt-leb k (rows - start) u ∙ sym (lt-leb (start + k) rows (omega arith)))
        (λ (u : k ≤ rows - start). le-leb k (rows - start) u ∙ sym (le-leb (start + k) rows (omega arith)))
        (lt_or_le (rows - start) k)

-- the same of the lent values too
pub record Whole (slots rows width start added : ℕ) : Type 0 where
  pub whole : slots ≡ rows * width
  pub new-whole : added ≡ added / width * width
  pub inside : start + added / width ≤ rows

pub whole-told : (slots rows width start added : ℕ) → whole_rows slots rows width start added ≡ true → Whole slots rows width start added
unfolding whole_rows
whole-told slots rows width start added e =
    let t = new_told rows width start added (and_right (eqb slots (rows * width)) _ e) in
    record { whole = eqb-true _ _ (and_left (eqb slots (rows * width)) _ e); new-whole = t.new-whole; inside = t.inside }

pub whole_asked : (slots rows width start k : ℕ) → 1 ≤ width → slots ≡ rows * width → start + k ≤ rows → whole_rows slots rows width start (k * width) ≡ true
unfolding whole_rows
whole_asked slots rows width start k w e h = and_both (eqb slots (rows * width)) _ (eq-eqb _ _ e) (new_asked rows width start k w h)

-- ---- an empty patch, and one with rows

module _ {A : Type 0} (done was : A) where
  pub empty_keeps : (new : List Float) → length new ≡ 0 → unless_empty new done was ≡ was
  empty_keeps [] e = refl
  empty_keeps (x ∷ xs) e = absurd (omega arith)

  pub full_does : (new : List Float) → (length new ≡ 0 → ⊥) → unless_empty new done was ≡ done
  full_does [] h = absurd (h refl)
  full_does (x ∷ xs) h = refl
