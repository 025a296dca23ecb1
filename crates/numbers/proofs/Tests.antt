-- Tests, and the refusals that are chosen by them.
use mathlib.Core.Path.{◌≡◌, refl, sym}
use mathlib.Core.Logic.{◌⊎◌, inl, inr}
use mathlib.Core.Bool.{Bool, true, false, ◌&&◌, ◌||◌}
use Prim.Native.Nat.{ℕ, zero, suc, ◌≤◌, ◌<◌}
use native.Mathlib.Omega.{arith}
use lib.Dec.{ltb}
use borrow.Author.Tests.{ltb-true, ltb-false}
use Rattle.numbers.specs.Rounded.{pick}
use Rattle.numbers.specs.Refusals.{unless, lowest, unless_refused}

-- a test is true or false
pub which : (b : Bool) → (b ≡ true) ⊎ (b ≡ false)
which true = inl refl
which false = inr refl

pub lt_or_le : (m n : ℕ) → (m < n) ⊎ (n ≤ m)
lt_or_le m n = go (ltb m n) refl
  where
    go : (b : Bool) → ltb m n ≡ b → (m < n) ⊎ (n ≤ m)
    go true e = inl (ltb-true m n e)
    go false e = inr (ltb-false m n e)

pub true_not_false : {A : Type 0} (b : Bool) → b ≡ true → b ≡ false → A
true_not_false b e h = let z : ◌≡◌ {A = ℕ} 0 1 = cc in absurd (omega arith)

-- ---- both

pub and_left : (a b : Bool) → a && b ≡ true → a ≡ true
and_left true b e = refl
and_left false b e = e

pub and_right : (a b : Bool) → a && b ≡ true → b ≡ true
and_right true b e = e
and_right false b e = true_not_false false e refl

pub and_both : (a b : Bool) → a ≡ true → b ≡ true → a && b ≡ true
and_both true b e h = h
and_both false b e h = e

-- ---- neither

pub or_left : (a b : Bool) → (a || b) ≡ false → a ≡ false
or_left true b e = e
or_left false b e = refl

pub or_right : (a b : Bool) → (a || b) ≡ false → b ≡ false
or_right true b e = true_not_false true refl e
or_right false b e = e

pub or-none : (a b : Bool) → a ≡ false → b ≡ false → (a || b) ≡ false
or-none true b e h = e
or-none false b e h = h

-- what `a && b` answers where a was found to hold, and where not
pub and-held : (a b : Bool) → a ≡ true → b ≡ (a && b)
and-held true b e = refl
and-held false b e = true_not_false false e refl

pub and_failed : (a b : Bool) → a ≡ false → a ≡ (a && b)
and_failed true b e = true_not_false true refl e
and_failed false b e = refl

pub and-true : (b : Bool) → b ≡ (b && true)
and-true true = refl
and-true false = refl

pub and_assoc : (a b c : Bool) → ((a && b) && c) ≡ (a && (b && c))
and_assoc true b c = refl
and_assoc false b c = refl

pub and_assoc_4 : (a b c d e : Bool) → ((a && (b && (c && d))) && e) ≡ (a && (b && (c && (d && e))))
and_assoc_4 true true true d e = refl
and_assoc_4 true true false d e = refl
and_assoc_4 true false c d e = refl
and_assoc_4 false b c d e = refl

pub and-false : (b : Bool) → (b && false) ≡ false
and-false true = refl
and-false false = refl

pub and_swap : (a b c : Bool) → (a && (b && c)) ≡ (b && (a && c))
and_swap true b c = refl
and_swap false b c = sym (and-false b)

-- what is tested here goes to what was found so far
pub and_push : (here rest fine : Bool) → ((here && rest) && fine) ≡ (rest && (here && fine))
and_push true rest fine = refl
and_push false rest fine = sym (and-false rest)

-- the same of four lists side by side
pub and_push_4 : (ha hb hc hd a b c d fine : Bool) → ((ha && a) && ((hb && b) && ((hc && c) && ((hd && d) && fine)))) ≡ (a
    && (b && (c && (d && (ha && (hb && (hc && (hd && fine))))))))
and_push_4 ha hb hc hd a b c d fine =
    let f₁ = hd && fine in
    let f₂ = hc && f₁ in
    let f₃ = hb && f₂ in
    let d₁ = and_push hd d fine in
    let c₁ = and_push hc c (d && f₁) in
    let c₂ = and_swap hc d f₁ in
    let b₁ = and_push hb b (c && (d && f₂)) in
    let b₂ = and_swap hb c (d && f₂) in
    let b₃ = and_swap hb d f₂ in
    let a₁ = and_push ha a (b && (c && (d && f₃))) in
    let a₂ = and_swap ha b (c && (d && f₃)) in
    let a₃ = and_swap ha c (d && f₃) in
    let a₄ = and_swap ha d f₃ in
    cc

-- ---- a choice

pub pick_true : {A : Type 0} (b : Bool) (x y : A) → b ≡ true → pick b x y ≡ x
pick_true b x y e = rw e

pub pick-false : {A : Type 0} (b : Bool) (x y : A) → b ≡ false → pick b x y ≡ y
pick-false b x y e = rw e

-- ---- refusals

pub unless_passed : (b : Bool) (k r : ℕ) → b ≡ true → unless b k r ≡ r
unless_passed b k r e = rw e

pub unless_failed : (b : Bool) (k r : ℕ) → b ≡ false → unless b k r ≡ k
unless_failed b k r e = rw e

pub unless-zero : (b : Bool) (k r : ℕ) → unless b (suc k) r ≡ 0 → (b ≡ true) × (r ≡ 0)
unless-zero true k r e = (refl, e)
unless-zero false k r e = absurd (omega arith)

-- number 0: each row of the table passed
pub record Passed (b l r v : Bool) : Type 0 where
  pub bounds : b ≡ true
  pub lengths : l ≡ true
  pub room : r ≡ true
  pub values : v ≡ true

pub lowest-zero : (b l r v : Bool) → lowest b l r v ≡ 0 → Passed b l r v
lowest-zero true true true true e = record { bounds = refl; lengths = refl; room = refl; values = refl }
lowest-zero true true true false e = absurd (omega arith)
lowest-zero true true false v e = absurd (omega arith)
lowest-zero true false r v e = absurd (omega arith)
lowest-zero false l r v e = absurd (omega arith)

-- each number is given exactly where its row fails and those before it pass
module _ (b l r v : Bool) where
  pub lowest_1 : b ≡ false → lowest b l r v ≡ 1
  lowest_1 e = rw e

  pub lowest_2 : b ≡ true → l ≡ false → lowest b l r v ≡ 2
  lowest_2 e f = rw (e, f)

  pub lowest_3 : b ≡ true → l ≡ true → r ≡ false → lowest b l r v ≡ 3
  lowest_3 e f g = rw (e, f, g)

  pub lowest_4 : b ≡ true → l ≡ true → r ≡ true → v ≡ false → lowest b l r v ≡ 4
  lowest_4 e f g h = rw (e, f, g, h)

  pub lowest_0 : b ≡ true → l ≡ true → r ≡ true → v ≡ true → lowest b l r v ≡ 0
  lowest_0 e f g h = rw (e, f, g, h)

-- a refusal leaves what was there
pub refused_keeps : {A : Type 0} (k : ℕ) (done was : A) → (k ≡ 0 → ⊥) → unless_refused k done was ≡ was
refused_keeps zero done was h = absurd (h refl)
refused_keeps (suc k) done was h = refl

-- number 0 leaves what is done
pub passed_does : {A : Type 0} (k : ℕ) (done was : A) → k ≡ 0 → unless_refused k done was ≡ done
passed_does k done was e = rw e

-- what holds of both holds of the one that is picked; and what holds of each where it is picked
pub pick_both : {A : Type 0} (P : A → Type 0) (b : Bool) {x y : A} → P x → P y → P (pick b x y)
pick_both P true h k = h
pick_both P false h k = k

pub by_pick : {A : Type 0} (P : A → Type 0) (b : Bool) (x y : A) → (b ≡ true → P x) → (b ≡ false → P y) → P (pick b x y)
by_pick P true x y f g = f refl
by_pick P false x y f g = g refl
