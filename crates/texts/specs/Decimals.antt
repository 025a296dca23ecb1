-- Numbers in decimal, as bytes: what is written, and what is read.
use Rattle.std.specs.Prelude.{ℕ, zero, suc, ◌+◌, ◌-◌, ◌*◌, ◌/◌, ◌%◌, Bool, true, false, ◌&&◌, not, List, [], ◌∷◌, ◌++◌, leb, ltb, eqb, length, drop}
use Rattle.numbers.specs.Rounded.{pick}

-- ---- as it is written

-- the digit that stands for a number below ten; 48 is `0`
abbrev pub digit_of : ℕ → ℕ
digit_of n = 48 + n

-- n in decimal, with at most `most` digits before the last
unfoldable pub decimal_within : (most n : ℕ) → List ℕ
decimal_within zero n = digit_of n ∷ []
decimal_within (suc most) n = pick (ltb n 10) (digit_of n ∷ []) (decimal_within most (n / 10) ++ (digit_of (n % 10) ∷ []))

-- n in decimal: a number has fewer digits than its own size, or one
unfoldable pub decimal : ℕ → List ℕ
unfolding decimal_within
decimal n = decimal_within n n

-- ---- as it is read

-- `0` to `9`
abbrev pub is_digit : ℕ → Bool
is_digit x = leb 48 x && leb x 57

-- the digits that a text starts with
unfoldable pub leading : List ℕ → List ℕ
leading [] = []
leading (x ∷ xs) = pick (is_digit x) (x ∷ leading xs) []

-- what stands behind them
unfoldable pub behind : List ℕ → List ℕ
unfolding leading
behind text = drop (length (leading text)) text

-- "without needless zeros": there is a digit, and the first of several is not `0`
unfoldable pub plain : List ℕ → Bool
plain [] = false
plain (x ∷ []) = true
plain (x ∷ y ∷ ys) = not (eqb x 48)

-- the number that digits stand for, behind those of v
unfoldable pub number_from : ℕ → List ℕ → ℕ
number_from v [] = v
number_from v (x ∷ xs) = number_from (v * 10 + (x - 48)) xs
