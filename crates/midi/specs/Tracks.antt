-- Document 02, No. 3: a grid of beats as a tempo track and back: what is refused, and what is promised of the writer and the reader.
use Rattle.std.specs.Prelude.{ℕ, ◌+◌, ◌-◌, List, [], ◌∷◌, leb, length}
use Rattle.numbers.specs.Refusals.{first_of, out_of_bounds, wrong_grid, gap_too_long, other_shape, too_little_room}
use Rattle.numbers.specs.Lists.{every}
use Rattle.numbers.specs.Outcomes.{Listing, ListWritten}
use Rattle.midi_gaps.specs.Gaps.{gaps_of, tempo_track_numbers_fine, is_grid, gaps_fit}
use Rattle.midi_events.specs.File.{file_of}
use Rattle.midi_events.specs.Shapes.{track_room, count_in, gaps_in, tempo_some, shaped}

-- "so errors never add up": the sum of some gaps
unfoldable pub total : List ℕ → ℕ
total [] = 0
total (gap ∷ gaps) = gap + total gaps

-- ---- refusal

-- "Refusals: 6 for fewer than two beats or frames not strictly ascending, 7 for a gap above 16,777,215, 8 for a file of another shape or a tempo of
-- 0, in that order after 1, then 3 when the output doesn't fit."
unfoldable pub write_refusal : (beats : List ℕ) (rate room : ℕ) → ℕ
unfolding tempo_track_numbers_fine is_grid gaps_fit gaps_of every
write_refusal beats rate room =
    first_of
    ((tempo_track_numbers_fine rate beats, out_of_bounds)
    ∷ (is_grid beats, wrong_grid)
    ∷ (gaps_fit rate beats, gap_too_long)
    ∷ (every tempo_some (gaps_of rate beats), other_shape)
    ∷ (leb (track_room (length beats - 1)) room, too_little_room)
    ∷ [])

-- the reader's: it takes no grid, so 8 and 3 are left
unfoldable pub read_refusal : (file : List ℕ) (room : ℕ) → ℕ
unfolding shaped
read_refusal file room = first_of ((shaped file, other_shape) ∷ (leb (count_in file) room, too_little_room) ∷ [])

-- ---- what the calls promise

-- what `write_tempo_track` promises: the bytes of the file come first, and later bytes are unchanged
abbrev pub TempoTrackPromise : (beats : List ℕ) (rate : ℕ) (was : List ℕ) (answer : Listing) (after : List ℕ) → Type 0
TempoTrackPromise beats rate was = ListWritten (write_refusal beats rate (length was)) (file_of (gaps_of rate beats)) was

-- what `read_tempo_track` promises: the gaps come first, and later slots are unchanged
abbrev pub TempoGapsPromise : (file was : List ℕ) (answer : Listing) (after : List ℕ) → Type 0
TempoGapsPromise file was = ListWritten (read_refusal file (length was)) (gaps_in file) was
