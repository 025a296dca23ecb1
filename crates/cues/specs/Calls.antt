-- What the calls on cue chunks promise. Document 02, No. 6: "9 for a line or chunk not of this form, 10 for a time or offset that is no listed
-- frame's, 11 for frames not strictly ascending, in that order after 1, then 3 when the output doesn't fit". A chunk alone has no rate, and frames
-- have no 9 and no 10.
use Rattle.std.specs.Prelude.{ℕ, List, [], ◌∷◌, ◌++◌, leb, length}
use Rattle.numbers.specs.Lists.{ascending}
use Rattle.numbers.specs.Refusals.{Row, not_of_this_form, no_listed_frame, not_ascending, too_little_room, first_of}
use Rattle.numbers.specs.Outcomes.{Listing, ListWritten}
use Rattle.lists.specs.Grids.{grid_rows}
use Rattle.cue_points.specs.Chunks.{cue_bytes, chunk_length, count_of, all_from, chunk_fine, offset_at, offset_fine, chunk_frames}

-- what refuses a chunk: 9, 10, 11, each of them of the whole chunk
abbrev pub chunk_rows : List ℕ → List Row
chunk_rows c =
    (chunk_fine c, not_of_this_form)
    ∷ (all_from (λ i. offset_fine (offset_at c i)) 0 (count_of c), no_listed_frame)
    ∷ (ascending 0 (chunk_frames c), not_ascending)
    ∷ []

-- 3: fewer bytes than 12 and 24 a frame
unfoldable pub write_cues_number : List ℕ → (room : ℕ) → ℕ
write_cues_number frames room = first_of (grid_rows frames ++ ((leb (chunk_length (length frames)) room, too_little_room) ∷ []))

-- 3: fewer slots than points
unfoldable pub read_cues_number : List ℕ → (room : ℕ) → ℕ
read_cues_number c room = first_of (chunk_rows c ++ ((leb (count_of c) room, too_little_room) ∷ []))

-- the promise of `write_cues`, over the bytes that were lent and their bytes afterwards
abbrev pub WriteCuesPromise : (frames before : List ℕ) → (r : Listing) (after : List ℕ) → Type 0
WriteCuesPromise frames before = ListWritten (write_cues_number frames (length before)) (cue_bytes frames) before

-- the promise of `read_cues`
abbrev pub ReadCuesPromise : (chunk before : List ℕ) → (r : Listing) (after : List ℕ) → Type 0
ReadCuesPromise chunk before = ListWritten (read_cues_number chunk (length before)) (chunk_frames chunk) before
