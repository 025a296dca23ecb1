-- What a text of cases says: its parts between marks, and the numbers that they spell.
use Rattle.std.specs.Prelude.{ℕ, suc, ◌+◌, ◌-◌, ◌%◌, min, List, [], ◌∷◌, take, drop, eqb, ltb}
use Rattle.numbers.specs.Rounded.{pick}
use Rattle.texts.specs.Texts.{starts}
use Rattle.texts.specs.Decimals.{leading, number_from}

-- the place of the first byte that is the mark, or the length of a text that has none
unfoldable pub index_of : ℕ → List ℕ → ℕ
index_of mark [] = 0
index_of mark (x ∷ xs) = pick (eqb x mark) 0 (suc (index_of mark xs))

-- how many marks a text has
unfoldable pub marks_of : ℕ → List ℕ → ℕ
marks_of mark [] = 0
marks_of mark (x ∷ xs) = pick (eqb x mark) 1 0 + marks_of mark xs

-- a text from its part k on, which stands behind its mark k; empty where it has fewer marks
unfoldable pub parts_from : ℕ → List ℕ → ℕ → List ℕ
parts_from mark [] k = []
parts_from mark (x ∷ xs) k = pick (eqb k 0) (x ∷ xs) (parts_from mark xs (pick (eqb x mark) (k - 1) k))

-- part k of a text, up to the next mark
unfoldable pub case_part : ℕ → List ℕ → ℕ → List ℕ
unfolding parts_from
case_part mark text k = let rest = parts_from mark text k in take (index_of mark rest) rest

-- `-`
abbrev pub minus : List ℕ
minus = 45 ∷ []

-- `|`, between the columns of a line
abbrev pub bar : ℕ
bar = 124

-- the largest u32, and the largest u64
abbrev pub most_small : ℕ
most_small = 4294967295

abbrev pub most_large : ℕ
most_large = 18446744073709551615

-- the number that a text spells: digits, behind a minus sign if it has one
unfoldable pub case_number : List ℕ → ℕ
case_number text = min (number_from 0 (leading (pick (starts minus text) (drop 1 text) text))) most_large

-- the number in column k of a line
unfoldable pub case_column : List ℕ → ℕ → ℕ
case_column line k = case_number (case_part bar line k)

-- the value of a digit, or of a letter from ten on
unfoldable pub case_digit : ℕ → ℕ
case_digit byte = pick (ltb byte 97) (byte % 48) (byte - 87)
