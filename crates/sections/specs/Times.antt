-- Document 01, Sections: "listed ascending as rows (time: row·frame ms)".
use Rattle.std.specs.Prelude.{ℕ, true, ◌&&◌, List, length, nat_le, Float}
use Rattle.numbers.specs.Rounded.{◌⊗◌, real}
use Rattle.numbers.specs.Limits.{row_fine}
use Rattle.numbers.specs.Refusals.{lowest}
use Rattle.numbers.specs.Lists.{every}
use Rattle.sections.specs.Boundaries.{frame_ms, grid_fine}

-- the time of a row in milliseconds
unfoldable pub row_time : (samples rate row : ℕ) → Float
row_time samples rate row = real row ⊗ frame_ms samples rate

-- 1: a feature row has 1 to 2 ^ 31 samples, the rate is fine, and each row is below 50,000. 3: room for each row.
unfoldable pub row_times_refusal : List ℕ → (samples rate room : ℕ) → ℕ
row_times_refusal rows samples rate room =
    lowest (grid_fine samples rate && every row_fine rows) true (nat_le (length rows) room) true
