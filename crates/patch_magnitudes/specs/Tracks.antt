-- Document 01, "Patching (added)", for magnitude rows with their flux and threshold curves: what is lent, and which patches of it are refused.
use Rattle.std.specs.Prelude.{ℕ, Bool, ◌&&◌, List, leb, length, take, Float}
use Rattle.numbers.specs.Limits.{magnitude_fine, value_fine, slab_fine, slab_whole}
use Rattle.numbers.specs.Lists.{every}
use Rattle.numbers.specs.Refusals.{lowest}
use Rattle.numbers.specs.declared.Slab.{Slab}
use Rattle.threshold.specs.Threshold.{window_room}
use Rattle.patches.specs.Patches.{Patch, new_rows}

-- what is lent and kept: the magnitudes, row behind row, and their two curves
pub record MagnitudeTrack : Type 0 where
  pub magnitudes : List Float
  pub flux : List Float
  pub threshold : List Float

abbrev pub magnitude_track : (magnitudes flux threshold : List Float) → MagnitudeTrack
magnitude_track magnitudes flux threshold = record { magnitudes = magnitudes; flux = flux; threshold = threshold }

-- ---- refusal

-- number 1 else: rows 0 to 1,048,576, bins 1 to 4,096, a start of at most the row count
unfoldable pub patch_bounds : Slab → (start : ℕ) → Bool
patch_bounds slab start = slab_fine slab && leb start slab.rows

-- number 2 else: so many lent magnitudes are rows times bins, and so many new ones are whole rows that end inside
unfoldable pub patch_lengths : Slab → (slots start added : ℕ) → Bool
patch_lengths slab slots start added = slab_whole slab slots && new_rows slab.rows slab.bins start added

-- number 3 else: "A lent curve too short is number 3 here, never 2"
unfoldable pub patch_room : (rows flux threshold room : ℕ) → Bool
patch_room rows flux threshold room = leb rows flux && (leb rows threshold && leb (window_room rows) room)

-- number 4 else: "old and new rows and .. each lent curve's slots up to its formula; slots beyond are not read"
unfoldable pub patch_values : (rows : ℕ) → MagnitudeTrack → (new : List Float) → Bool
patch_values rows was new =
    every magnitude_fine was.magnitudes
    && (every magnitude_fine new && (every value_fine (take rows was.flux) && every value_fine (take rows was.threshold)))

-- the number, with `room` slots lent to sort in
unfoldable pub patch_number : Slab → MagnitudeTrack → Patch → (room : ℕ) → ℕ
patch_number slab was patch room =
    lowest (patch_bounds slab patch.start) (patch_lengths slab (length was.magnitudes) patch.start (length patch.new))
    (patch_room slab.rows (length was.flux) (length was.threshold) room) (patch_values slab.rows was patch.new)
