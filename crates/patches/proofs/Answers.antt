-- What the answer of a patch says, a number and slots: taken apart, and of a refusal the number only. Assumes nothing.
use mathlib.Core.List.{List, []}
use mathlib.Core.Path.{◌≡◌, refl, ap}
use Prim.Native.Nat.{ℕ, zero, suc}
use native.Mathlib.Omega.{arith}
use Rattle.patches.specs.Patches.{ranges, returned}

module _ {m n : ℕ} {x y : List ℕ} (e : ◌≡◌ {A = ℕ × List ℕ} (m, x) (n, y)) where
  pub same_number : m ≡ n
  same_number = ap (λ (said : ℕ × List ℕ). said.0) e

  pub same-slots : x ≡ y
  same-slots = ap (λ (said : ℕ × List ℕ). said.1) e

-- ranges that coincide have the same ends
pub same_ends : {a b c d a' b' c' d' : ℕ} → ranges a b c d ≡ ranges a' b' c' d' → (a ≡ a') × (b ≡ b') × (c ≡ c') × (d ≡ d')
same_ends e = (cc, cc, cc, cc)

-- ranges are slots
pub some-slots : {a b c d : ℕ} → [] ≡ ranges a b c d → ⊥
some-slots e = let z : ◌≡◌ {A = ℕ} 0 1 = cc in omega arith

pub refused_returns : (n : ℕ) (slots : List ℕ) → (n ≡ 0 → ⊥) → (n, []) ≡ returned n slots
refused_returns zero slots h = absurd (h refl)
refused_returns (suc k) slots h = refl
