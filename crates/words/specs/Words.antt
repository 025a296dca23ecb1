-- Thirty-two bits as four bytes, the low byte first.
use Rattle.std.specs.Prelude.{ℕ, ◌+◌, ◌*◌, ◌/◌, ◌%◌, Bool, List, [], ◌∷◌, ltb, get_or, drop}

-- the four bytes of a number below 2 ^ 32
unfoldable pub word : ℕ → List ℕ
word n = n % 256 ∷ n / 256 % 256 ∷ n / 256 / 256 % 256 ∷ n / 256 / 256 / 256 % 256 ∷ []

-- four bytes as a number
abbrev pub word_of : (a b c d : ℕ) → ℕ
word_of a b c d = a + b * 256 + c * 65536 + d * 16777216

-- the number that the first four bytes stand for
unfoldable pub word_in : List ℕ → ℕ
word_in p = word_of (get_or p 0 0) (get_or p 1 0) (get_or p 2 0) (get_or p 3 0)

-- the same from the place `at` on
abbrev pub word_at : List ℕ → ℕ → ℕ
word_at p at = word_in (drop at p)

abbrev pub byte_fine : ℕ → Bool
byte_fine x = ltb x 256

abbrev pub word_fine : ℕ → Bool
word_fine x = ltb x 4294967296
