-- What the calls on label tracks promise. Document 02, No. 6: "9 for a line or chunk not of this form, 10 for a time or offset that is no listed
-- frame's, 11 for frames not strictly ascending, in that order after 1, then 3 when the output doesn't fit". Frames have no 9 and no 10.
use Rattle.std.specs.Prelude.{ℕ, List, [], ◌∷◌, ◌++◌, leb, length}
use Rattle.numbers.specs.Limits.{rate_fine}
use Rattle.numbers.specs.Refusals.{Row, out_of_bounds, too_little_room, first_of}
use Rattle.numbers.specs.Outcomes.{Listing, ListWritten}
use Rattle.lists.specs.Grids.{grid_rows, Counted}
use Rattle.label_tracks.specs.Tracks.{label_bytes, text_times, text_frames, text_rows}

-- what refuses frames at a rate: 1 (the rate, then a frame), 11
abbrev pub frames_rows : (frames : List ℕ) (rate : ℕ) → List Row
frames_rows frames rate = (rate_fine rate, out_of_bounds) ∷ grid_rows frames

-- 3: fewer bytes than the track has
unfoldable pub write_labels_number : (frames : List ℕ) (rate room : ℕ) → ℕ
write_labels_number frames rate room = first_of (frames_rows frames rate ++ ((leb (length (label_bytes rate frames)) room, too_little_room) ∷ []))

-- 3: fewer slots than lines
unfoldable pub read_labels_number : (text : List ℕ) (rate room : ℕ) → ℕ
read_labels_number text rate room = first_of (text_rows rate text ++ ((leb (length (text_times text)) room, too_little_room) ∷ []))

-- the promise of `labels_room`: the number of frames at a rate, and how many bytes their track has
abbrev pub LabelsRoomPromise : (frames : List ℕ) (rate : ℕ) → (r : Listing) → Type 0
LabelsRoomPromise frames rate = Counted (first_of (frames_rows frames rate)) (length (label_bytes rate frames))

-- the promise of `write_labels`, over the bytes that were lent and their bytes afterwards
abbrev pub WriteLabelsPromise : (frames : List ℕ) (rate : ℕ) (before : List ℕ) → (r : Listing) (after : List ℕ) → Type 0
WriteLabelsPromise frames rate before = ListWritten (write_labels_number frames rate (length before)) (label_bytes rate frames) before

-- the promise of `read_labels`
abbrev pub ReadLabelsPromise : (text : List ℕ) (rate : ℕ) (before : List ℕ) → (r : Listing) (after : List ℕ) → Type 0
ReadLabelsPromise text rate before = ListWritten (read_labels_number text rate (length before)) (text_frames rate text) before
