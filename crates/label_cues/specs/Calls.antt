-- What the two conversions promise. Document 02, No. 6: "Convert either way at a given rate"; "9 for a line or chunk not of this form, 10 for a time or
-- offset that is no listed frame's, 11 for frames not strictly ascending, in that order after 1, then 3 when the output doesn't fit".
use Rattle.std.specs.Prelude.{ℕ, List, [], ◌∷◌, ◌++◌, leb, length}
use Rattle.numbers.specs.Limits.{rate_fine}
use Rattle.numbers.specs.Refusals.{Row, out_of_bounds, too_little_room, first_of}
use Rattle.numbers.specs.Outcomes.{Listing, ListWritten}
use Rattle.cue_points.specs.Chunks.{cue_bytes, chunk_length, chunk_frames}
use Rattle.cues.specs.Calls.{chunk_rows}
use Rattle.label_tracks.specs.Tracks.{label_bytes, text_frames, text_rows}

-- 3: fewer bytes than 12 and 24 a label
unfoldable pub labels_to_cues_number : (text : List ℕ) (rate room : ℕ) → ℕ
labels_to_cues_number text rate room = first_of (text_rows rate text ++ ((leb (chunk_length (length (text_frames rate text))) room, too_little_room) ∷ []))

-- what refuses a chunk at a rate: 1, 9, 10, 11
abbrev pub rated_rows : (chunk : List ℕ) (rate : ℕ) → List Row
rated_rows chunk rate = (rate_fine rate, out_of_bounds) ∷ chunk_rows chunk

-- 3: fewer bytes than the track of the chunk's frames has
unfoldable pub cues_to_labels_number : (chunk : List ℕ) (rate room : ℕ) → ℕ
cues_to_labels_number chunk rate room =
    first_of (rated_rows chunk rate ++ ((leb (length (label_bytes rate (chunk_frames chunk))) room, too_little_room) ∷ []))

-- the promise of `labels_to_cues`: the chunk of the frames that the track has
abbrev pub LabelsToCuesPromise : (text : List ℕ) (rate : ℕ) (before : List ℕ) → (r : Listing) (after : List ℕ) → Type 0
LabelsToCuesPromise text rate before = ListWritten (labels_to_cues_number text rate (length before)) (cue_bytes (text_frames rate text)) before

-- the promise of `cues_to_labels`: the track of the frames that the chunk has
abbrev pub CuesToLabelsPromise : (chunk : List ℕ) (rate : ℕ) (before : List ℕ) → (r : Listing) (after : List ℕ) → Type 0
CuesToLabelsPromise chunk rate before = ListWritten (cues_to_labels_number chunk rate (length before)) (label_bytes rate (chunk_frames chunk)) before
