-- Document 01, "Bounds and numbers of refusal": what "finite, of size at most" means, in whole numbers.
-- No promise of a call is written in these words: proofs use them, between a promise's test of a value and the operations on it.
use Rattle.std.specs.Prelude.{◌≡◌, Bool, true, false, not, List, [], ◌∷◌, ℕ, suc, ◌+◌, ◌*◌, ◌^◌, ◌≤◌, ◌<◌, T, Float}
use Rattle.std.specs.Float.{nan, inf, fin, Format}
use Rattle.std.specs.Float.Ieee.{prec, emax, low, up, down}

-- |x| ≤ N. A value m * 2 ^ e is the fraction m * up e / down e.
abbrev pub size_up_to : ℕ → Float → Type 0
size_up_to N nan = ⊥
size_up_to N (inf s) = ⊥
size_up_to N (fin s m e) = m * up e ≤ N * down e

-- finite, and of size at most the whole number N
pub record AtMost (N : ℕ) (x : Float) : Type 0 where
  pub size : size_up_to N x

-- finite, and of size at most 2 ^ k
abbrev pub Within : ℕ → Float → Type 0
Within k x = AtMost (2 ^ k) x

-- p / q ≤ |x|
abbrev pub size_from : ℕ → ℕ → Float → Type 0
size_from p q nan = ⊥
size_from p q (inf s) = Unit
size_from p q (fin s m e) = p * down e ≤ q * (m * up e)

-- no NaN, and of size at least p / q: an infinity is
pub record AtLeast (p q : ℕ) (x : Float) : Type 0 where
  pub size : size_from p q x

-- no NaN, and its sign is plus: +0 is, -0 is not
unfoldable pub is_plus : Float → Bool
is_plus nan = false
is_plus (inf s) = not s
is_plus (fin s m e) = not s

pub record Plus (x : Float) : Type 0 where
  pub sign : T (is_plus x)

-- the format holds the whole number N: N is q * 2 ^ j with at most prec binary digits in q, and not too large
pub record Held (f : Format) (N : ℕ) : Type 0 where
  pub q : ℕ
  pub j : ℕ
  pub few : q < 2 ^ prec f
  pub under : N < 2 ^ suc (emax f)
  pub is : N ≡ q * 2 ^ j

-- the format holds the fraction a / c: it is q * 2 ^ j of the format's smallest values
pub record HeldAt (f : Format) (a c : ℕ) : Type 0 where
  pub q : ℕ
  pub j : ℕ
  pub few : q < 2 ^ prec f
  pub under : q * 2 ^ j < 2 ^ (low f + suc (emax f))
  pub is : a * 2 ^ low f ≡ q * 2 ^ j * c

-- each entry of a list has the property
pub data Each {A : Type 0} (P : A → Type 0) : List A → Type 0 where
  none : Each P []
  more : {x : A} {xs : List A} → P x → Each P xs → Each P (x ∷ xs)

-- ±a ≤ ±b, negative where the sign is true: the order of signed whole numbers, in which -0 is +0
abbrev pub signed_le : Bool → ℕ → Bool → ℕ → Type 0
signed_le false a false b = a ≤ b
signed_le false a true b = a + b ≡ 0
signed_le true a false b = Unit
signed_le true a true b = b ≤ a
