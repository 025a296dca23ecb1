-- Document 01, Sections: the boundaries of a novelty curve.
use Rattle.std.specs.Prelude.{ℕ, zero, suc, ◌+◌, ◌-◌, max, Bool, true, ◌&&◌, List, [], length, nat_le, nat_lt, Float}
use Rattle.numbers.specs.Rounded.{◌⊕◌, ◌⊗◌, ◌⊘◌, bits, real, pick, thousand}
use Rattle.numbers.specs.Limits.{most_features, most_length, between, rate_fine, value_fine}
use Rattle.numbers.specs.Refusals.{lowest}
use Rattle.numbers.specs.Lists.{every}
use Rattle.floats.specs.Wholes.{ceil_of}
use Rattle.median.specs.Median.{median_of, mad_of}
use Rattle.onsets.specs.Peaks.{peaks_of, suppressed}
use Rattle.section_peaks.specs.Greatest.{kept_greatest}

-- 4000, the milliseconds between boundaries
abbrev pub section_gap_ms : Float
section_gap_ms = bits 0x40AF_4000_0000_0000

-- 1.5
abbrev pub section_mad_scale : Float
section_mad_scale = bits 0x3FF8_0000_0000_0000

-- "F 1 to 15 .. one section": fewer rows have no boundary
abbrev pub least_rows : ℕ
least_rows = 16

-- "Frame ms = length/rate·1000": of a feature row, so many samples long
unfoldable pub frame_ms : (samples rate : ℕ) → Float
frame_ms samples rate = real samples ⊘ real rate ⊗ thousand

-- "Gap = max(1, ceil(4000/frame ms))"
unfoldable pub section_gap : (samples rate : ℕ) → ℕ
section_gap samples rate = max 1 (ceil_of (section_gap_ms ⊘ frame_ms samples rate))

-- "Threshold med + 1.5·mad"
unfoldable pub section_level : List Float → Float
section_level novelty = let med = median_of novelty in med ⊕ section_mad_scale ⊗ mad_of novelty med

-- "then peaks and suppression as above"
unfoldable pub section_peaks : List Float → (gap : ℕ) → List ℕ
section_peaks novelty gap = suppressed novelty gap (peaks_of novelty (λ _. section_level novelty))

-- "max(1, max_sections) - 1 boundaries"
unfoldable pub most_boundaries : (max_sections : ℕ) → ℕ
most_boundaries max_sections = max 1 max_sections - 1

-- the rows at which a section begins, the first section's aside
unfoldable pub boundaries_of : List Float → (samples rate max_sections : ℕ) → List ℕ
boundaries_of novelty samples rate max_sections =
    pick (nat_lt (length novelty) least_rows) [] (kept_greatest novelty (most_boundaries max_sections) (section_peaks novelty (section_gap samples rate)))

-- "F = 0: zero sections; F 1 to 15, or no boundary: one section": of so many rows with so many boundaries
unfoldable pub sections_of : (rows boundaries : ℕ) → ℕ
sections_of zero boundaries = 0
sections_of (suc rows) boundaries = boundaries + 1

-- ---- refusal

-- "feature length 1 to 2^31 samples", and the rate is fine
abbrev pub grid_fine : (samples rate : ℕ) → Bool
grid_fine samples rate = between 1 most_length samples && rate_fine rate

-- 1: the novelty has 0 to 50,000 slots, a feature row 1 to 2 ^ 31 samples, and the rate is fine. 3: room for a row of each slot, and to
-- sort in, whatever the number of slots. 4: each novelty value is fine.
unfoldable pub boundaries_refusal : List Float → (samples rate room work : ℕ) → ℕ
boundaries_refusal novelty samples rate room work =
    lowest (nat_le (length novelty) most_features && grid_fine samples rate) true
    (nat_le (length novelty) room && nat_le (length novelty) work) (every value_fine novelty)
