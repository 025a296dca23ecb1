-- Document 01, "Bounds and numbers of refusal": each bound once, under a name.
use Rattle.std.specs.Prelude.{ℕ, ◌*◌, Bool, ◌&&◌, leb, eqb, Float}
use Rattle.std.specs.Float.{binary32}
use Rattle.std.specs.Float.Ieee.{le, neg, of_bits}
use Rattle.numbers.specs.Rounded.{bits}
use Rattle.numbers.specs.declared.Slab.{Slab}

-- samples a second
abbrev pub most_rate : ℕ
most_rate = 192000

-- magnitude rows, or slots of a lent envelope
abbrev pub most_rows : ℕ
most_rows = 1048576

-- bins of a magnitude row
abbrev pub most_bins : ℕ
most_bins = 4096

-- a beat period, in frames
abbrev pub most_period : ℕ
most_period = 45000

-- feature rows
abbrev pub most_features : ℕ
most_features = 50000

-- values of a feature row
abbrev pub feature_width : ℕ
feature_width = 16

-- samples of a feature row, 2 ^ 31
abbrev pub most_length : ℕ
most_length = 2147483648

-- a listed frame
abbrev pub most_frame : ℕ
most_frame = 1048575

-- a listed row of a feature curve, one less than the feature rows
abbrev pub most_listed_row : ℕ
most_listed_row = 49999

-- lo ≤ n ≤ hi
abbrev pub between : ℕ → ℕ → ℕ → Bool
between lo hi n = leb lo n && leb n hi

-- n ≤ most
abbrev pub at_most : (most n : ℕ) → Bool
at_most most n = leb n most

-- "Listed frames at most 1,048,575"
abbrev pub frame_fine : ℕ → Bool
frame_fine = at_most most_frame

-- a listed row is one of at most 50,000
abbrev pub row_fine : ℕ → Bool
row_fine = at_most most_listed_row

-- "Sample rate 1 to 192,000"
abbrev pub rate_fine : ℕ → Bool
rate_fine rate = between 1 most_rate rate

-- finite, and of size at most top: false of a NaN and of an infinity
abbrev pub sized : Float → Float → Bool
sized top x = le (neg top) x && le x top

-- 2 ^ 126 in binary32, the largest size of a magnitude
abbrev pub magnitude_top : Float
magnitude_top = of_bits binary32 0x7E80_0000

-- 2 ^ 150, the largest size of an envelope, curve, median or feature value
abbrev pub value_top : Float
value_top = bits 0x4950_0000_0000_0000

-- 1
abbrev pub similarity_top : Float
similarity_top = bits 0x3FF0_0000_0000_0000

-- number 4 of each kind of lent value: "isn't finite or has size above" its top
unfoldable pub magnitude_fine : Float → Bool
magnitude_fine x = sized magnitude_top x

unfoldable pub value_fine : Float → Bool
value_fine x = sized value_top x

-- "a lent similarity isn't within -1 to 1"
unfoldable pub similarity_fine : Float → Bool
similarity_fine x = sized similarity_top x

-- ---- a slab of magnitudes: so many rows of so many bins

-- the shape with these numbers
abbrev pub slab_of : (rows bins : ℕ) → Slab
slab_of rows bins = record { rows = rows; bins = bins }

-- number 1 else: rows 0 to 1,048,576, bins 1 to 4,096
unfoldable pub slab_fine : Slab → Bool
slab_fine slab = leb slab.rows most_rows && between 1 most_bins slab.bins

-- the magnitudes of all rows
abbrev pub slab_slots : Slab → ℕ
slab_slots slab = slab.rows * slab.bins

-- number 2 else: "a lent input's length isn't rows times width"
abbrev pub slab_whole : Slab → (slots : ℕ) → Bool
slab_whole slab slots = eqb slots (slab_slots slab)
