-- Document 02, No. 7, as in structure.rs `bucket_index`: which feature row a row of the feature transform belongs to. "transform 4,096, hop 1,024": row t
-- begins at sample 1,024t, its centre is 2,048 samples on, and it belongs to the feature row that its centre's time, over a feature row's, each operation
-- rounded, falls in, the last one at most. So a centre that lies exactly where a feature row begins may fall to the one before, as in the Rust: row 1 at 44,100
-- with length 1,024 has its centre at sample 3,072 and belongs to row 2.
use Rattle.std.specs.Prelude.{ℕ, ◌-◌, min, Float}
use Rattle.std.specs.Float.Ieee.{to_unsigned}
use Rattle.numbers.specs.Rounded.{◌⊕◌, ◌⊗◌, ◌⊘◌, bits, real, thousand}
use Rattle.sections.specs.Boundaries.{frame_ms}
use Rattle.feature_places.specs.declared.FeatureGrid.{FeatureGrid}

-- the grid with these numbers: samples a second, samples of a feature row, feature rows
abbrev pub feature_grid : (rate length count : ℕ) → FeatureGrid
feature_grid rate length count = record { rate = rate; length = length; count = count }

-- 1024, samples from a row to the next
abbrev pub feature_hop : Float
feature_hop = bits 0x4090_0000_0000_0000

-- 2048, samples from a row's first to its centre
abbrev pub feature_centre : Float
feature_centre = bits 0x40A0_0000_0000_0000

-- the time of row t's centre in milliseconds
unfoldable pub centre_ms : (rate t : ℕ) → Float
centre_ms rate t = (real t ⊗ feature_hop ⊕ feature_centre) ⊘ real rate ⊗ thousand

-- the feature row of row t: its time over a feature row's, cut to a whole number, and held to the last feature row
unfoldable pub feature_row_of : FeatureGrid → (t : ℕ) → ℕ
unfolding centre_ms frame_ms
feature_row_of grid t = min (to_unsigned 64 (centre_ms grid.rate t ⊘ frame_ms grid.length grid.rate)) (grid.count - 1)
