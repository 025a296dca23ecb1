-- Document 01, "The reporting program": the header of a NumPy .npy 1.0 array, "its header text exactly
-- `{'descr': '<f4', 'fortran_order': False, 'shape': (N, B), }`, then any number of spaces and a line feed that ends the stated header
-- length, N and B without needless zeros". A text is the list of its bytes.
use Rattle.std.specs.Prelude.{ℕ, ◌+◌, ◌*◌, min, Bool, false, ◌&&◌, List, [], ◌∷◌, ◌++◌, Option, Some, None, leb, eqb, length, get_or, drop, replicate}
use Rattle.numbers.specs.Rounded.{pick}
use Rattle.texts.specs.Texts.{space, line_feed, starts}
use Rattle.texts.specs.Decimals.{decimal, leading, behind, plain, number_from}
use Rattle.report_npy.specs.declared.Shape.{Shape}

-- ---- the text as it is written

-- `{'descr': '<f4', 'fortran_order': False, 'shape': (`, 51 bytes
abbrev pub front : List ℕ
front =
    123 ∷ 39 ∷ 100 ∷ 101 ∷ 115 ∷ 99 ∷ 114 ∷ 39 ∷ 58 ∷ 32 ∷ 39 ∷ 60 ∷ 102 ∷ 52 ∷ 39 ∷ 44 ∷ 32 ∷
    39 ∷ 102 ∷ 111 ∷ 114 ∷ 116 ∷ 114 ∷ 97 ∷ 110 ∷ 95 ∷ 111 ∷ 114 ∷ 100 ∷ 101 ∷ 114 ∷ 39 ∷ 58 ∷ 32 ∷ 70 ∷ 97 ∷ 108 ∷ 115 ∷ 101 ∷ 44 ∷ 32 ∷
    39 ∷ 115 ∷ 104 ∷ 97 ∷ 112 ∷ 101 ∷ 39 ∷ 58 ∷ 32 ∷ 40 ∷ []

-- `, `
abbrev pub comma : List ℕ
comma = 44 ∷ 32 ∷ []

-- `), }`
abbrev pub closing : List ℕ
closing = 41 ∷ 44 ∷ 32 ∷ 125 ∷ []

-- the header of n rows and b bins, with k spaces before the line feed
unfoldable pub header_text : (n b k : ℕ) → List ℕ
unfolding decimal
header_text n b k = front ++ (decimal n ++ (comma ++ (decimal b ++ (closing ++ (replicate k space ++ (line_feed ∷ []))))))

-- ---- the text as it is read

-- 4,294,967,295: above every bound of document 01, so that a number held to it is out of bounds where the number is
abbrev pub most_number : ℕ
most_number = 4294967295

abbrev pub held_number : ℕ → ℕ
held_number n = min n most_number

-- the shape of so many rows and bins
abbrev pub shape_of : (rows bins : ℕ) → Shape
shape_of rows bins = record { rows = rows; bins = bins }

-- any number of spaces, and a line feed that ends the text
unfoldable pub ended : List ℕ → Bool
ended [] = false
ended (x ∷ xs) = pick (eqb x space) (ended xs) (eqb x line_feed && eqb (length xs) 0)

-- the text from B on, where N is read
unfoldable pub columns_of : ℕ → List ℕ → Option Shape
unfolding leading behind plain starts number_from ended
columns_of n text =
    pick (plain (leading text) && (starts closing (behind text) && ended (drop 4 (behind text))))
    (Some (shape_of (held_number n) (held_number (number_from 0 (leading text))))) None

-- the text from N on
unfoldable pub rows_of : List ℕ → Option Shape
unfolding leading behind plain starts number_from columns_of
rows_of text =
    pick (plain (leading text) && starts comma (behind text)) (columns_of (number_from 0 (leading text)) (drop 2 (behind text))) None

-- what a header's text says: its shape, and none where it is malformed
unfoldable pub header_of : List ℕ → Option Shape
unfolding starts rows_of
header_of text = pick (starts front text) (rows_of (drop 51 text)) None

-- ---- what stands before the text

-- 0x93, `NUMPY`, version 1.0
abbrev pub magic : List ℕ
magic = 147 ∷ 78 ∷ 85 ∷ 77 ∷ 80 ∷ 89 ∷ 1 ∷ 0 ∷ []

-- the length of the header's text, which ten bytes state: magic and version, then sixteen bits, the low byte first; none where they are malformed
unfoldable pub preamble_of : List ℕ → Option ℕ
unfolding starts
preamble_of bytes =
    pick (starts magic bytes && leb 10 (length bytes)) (Some (get_or bytes 8 0 + get_or bytes 9 0 * 256)) None
