-- Document 01, "Patching (added)", for magnitude rows with their flux and threshold curves: "Copy in the rows, then write flux and
-- threshold .. in demand 3's slots. Threshold slots follow from the lent flux as it then stands .. The answer names first and past-last
-- slot written per curve; .. an empty patch names 0 to 0." Demand 3: "flux slots a to b and threshold slots a-10 to b+10, cut at the ends".
use Rattle.std.specs.Prelude.{ℕ, ◌+◌, ◌-◌, min, ◌≡◌, List, [], length, take, Float, Result, Ok, Err}
use Rattle.numbers.specs.Lists.{filled}
use Rattle.numbers.specs.Refusals.{number, unless_refused}
use Rattle.numbers.specs.Outcomes.{Open}
use Rattle.numbers.specs.declared.Refusal.{Refusal}
use Rattle.numbers.specs.declared.Slab.{Slab}
use Rattle.flux.specs.Flux.{flux_at}
use Rattle.threshold.specs.Threshold.{reach, threshold_at, window_room}
use Rattle.patches.specs.Patches.{Patch, past_row, edited, unless_empty, ranges, ranges_named, returned}
use Rattle.patch_magnitudes.specs.Tracks.{MagnitudeTrack, magnitude_track, patch_number}
use Rattle.patch_magnitudes.specs.declared.Patched.{Patched}

-- ---- the slots that are written, first and past-last

abbrev pub flux_first : Patch → ℕ
flux_first patch = patch.start

abbrev pub flux_past : Slab → Patch → ℕ
flux_past slab patch = min (past_row slab.bins patch + 1) slab.rows

abbrev pub threshold_first : Patch → ℕ
threshold_first patch = patch.start - reach

abbrev pub threshold_past : Slab → Patch → ℕ
threshold_past slab patch = min (past_row slab.bins patch + reach + 1) slab.rows

-- ---- what they hold

-- the flux curve with its slots written from the edited rows
unfoldable pub mended_flux : Slab → MagnitudeTrack → Patch → List Float
mended_flux slab was patch =
    filled (flux_at (edited slab.bins was.magnitudes patch) slab) was.flux (flux_first patch) (flux_past slab patch)

-- the threshold curve with its slots written "from the lent flux as it then stands", of which the first N slots are the curve
unfoldable pub mended_threshold : Slab → MagnitudeTrack → Patch → List Float
mended_threshold slab was patch =
    filled (threshold_at (take slab.rows (mended_flux slab was patch))) was.threshold (threshold_first patch) (threshold_past slab patch)

-- what a patch that has rows makes of the track
unfoldable pub mended : Slab → MagnitudeTrack → Patch → MagnitudeTrack
mended slab was patch =
    magnitude_track (edited slab.bins was.magnitudes patch) (mended_flux slab was patch) (mended_threshold slab was patch)

-- ---- the call

-- What an answer says, "this paper's number and values for each of its cases". `Ok slots` is number 0 and names first and past-last slot of the
-- flux, and of the threshold; `Err e` is the number of e in the table and names no slots.
abbrev pub patched_says : Result Patched Refusal → ℕ × List ℕ
patched_says (Ok slots) = (0, ranges slots.flux_first slots.flux_past slots.threshold_first slots.threshold_past)
patched_says (Err e) = (number e, [])

-- the slots that a patch names
abbrev pub rows_named : Slab → Patch → List ℕ
rows_named slab patch =
    ranges_named patch.new (ranges (flux_first patch) (flux_past slab patch) (threshold_first patch) (threshold_past slab patch))

-- the track afterwards: a refusal and an empty patch change nothing
unfoldable pub after : Slab → MagnitudeTrack → Patch → (room : ℕ) → MagnitudeTrack
after slab was patch room =
    unless_refused (patch_number slab was patch room) (unless_empty patch.new (mended slab was patch) was) was

-- how many slots of the work slice, from its start on, may differ afterwards
unfoldable pub patch_sorted_in : (number rows : ℕ) → Patch → ℕ
patch_sorted_in number rows patch = unless_refused number (unless_empty patch.new (window_room rows) 0) 0

-- What `patch_magnitudes` promises: its answer, and the track afterwards, each slot of it. Of the work slice the sorting room is left open,
-- and none of it where nothing is written.
pub record PatchMagnitudesPromise
    (slab : Slab) (was : MagnitudeTrack) (patch : Patch) (work : List Float)
    (answer : Result Patched Refusal) (now : MagnitudeTrack) (work' : List Float) : Type 0 where
  pub answer_is : patched_says answer ≡ returned (patch_number slab was patch (length work)) (rows_named slab patch)
  pub track_is : now ≡ after slab was patch (length work)
  pub works : Open (patch_sorted_in (patch_number slab was patch (length work)) slab.rows patch) work work'
