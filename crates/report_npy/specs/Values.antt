-- Document 01, "The reporting program": the data, rows of '<f4', which are binary32 with the low byte first.
use Rattle.std.specs.Prelude.{ℕ, ◌+◌, ◌*◌, ◌/◌, min, List, length, get_or, Float}
use Rattle.std.specs.Float.{binary32}
use Rattle.std.specs.Float.Ieee.{of_bits}
use Rattle.numbers.specs.Lists.{filled}
use Rattle.words.specs.Words.{word_of}

-- the float that four bytes stand for; every pattern of a NaN is the one NaN
abbrev pub single_of : (a b c d : ℕ) → Float
single_of a b c d = of_bits binary32 (word_of a b c d)

-- value i of the data
abbrev pub single_at : List ℕ → ℕ → Float
single_at bytes i = single_of (get_or bytes (i * 4) 0) (get_or bytes (i * 4 + 1) 0) (get_or bytes (i * 4 + 2) 0) (get_or bytes (i * 4 + 3) 0)

-- how many values are read: as many as the bytes hold whole, and at most the row's slots
abbrev pub values_read : List ℕ → List Float → ℕ
values_read bytes row = min (length bytes / 4) (length row)

-- a lent row after the bytes are read into it: the values first, and later slots unchanged
unfoldable pub row_read : List ℕ → List Float → List Float
unfolding filled
row_read bytes row = filled (single_at bytes) row 0 (values_read bytes row)
