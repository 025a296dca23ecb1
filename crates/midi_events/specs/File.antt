-- Document 02, No. 3, in the words of the Standard MIDI Files 1.0 specification: a header chunk of format 0 with one track and division 96, and
-- one track chunk, "one Set Tempo event per beat gap, the first at delta 0 and the others 96 apart, end of track 96 after the last".
-- A file is the list of its bytes.
use Rattle.std.specs.Prelude.{ℕ, zero, suc, ◌/◌, ◌%◌, List, [], ◌∷◌, ◌++◌, length}

-- ---- numbers, the high byte first

-- 16 bits
abbrev pub in_two_bytes : ℕ → List ℕ
in_two_bytes n = n / 256 ∷ n % 256 ∷ []

-- 24 bits
abbrev pub in_three_bytes : ℕ → List ℕ
in_three_bytes n = n / 65536 ∷ n / 256 % 256 ∷ n % 256 ∷ []

-- 32 bits
abbrev pub in_four_bytes : ℕ → List ℕ
in_four_bytes n = n / 16777216 ∷ n / 65536 % 256 ∷ n / 256 % 256 ∷ n % 256 ∷ []

-- ---- chunks

-- `MThd`
abbrev pub header_name : List ℕ
header_name = 77 ∷ 84 ∷ 104 ∷ 100 ∷ []

-- `MTrk`
abbrev pub track_name : List ℕ
track_name = 77 ∷ 84 ∷ 114 ∷ 107 ∷ []

-- ticks a quarter note, which is a beat
abbrev pub division : ℕ
division = 96

-- the header chunk: six bytes, format 0, one track, and the division
abbrev pub header_chunk : List ℕ
header_chunk = header_name ++ (in_four_bytes 6 ++ (in_two_bytes 0 ++ (in_two_bytes 1 ++ in_two_bytes division)))

-- the 22 bytes before the events of a track that has n bytes
abbrev pub track_front : ℕ → List ℕ
track_front n = header_chunk ++ (track_name ++ in_four_bytes n)

-- ---- events: a delta time below 128 is one byte

-- "the first at delta 0 and the others 96 apart": the delta of event i
abbrev pub delta_of : ℕ → ℕ
delta_of zero = 0
delta_of (suc i) = division

-- FF 51 03, "Set Tempo, in microseconds per MIDI quarter-note", behind its delta
abbrev pub tempo_event : (delta gap : ℕ) → List ℕ
tempo_event delta gap = delta ∷ 255 ∷ 81 ∷ 3 ∷ in_three_bytes gap

-- "end of track 96 after the last": FF 2F 00
abbrev pub track_end : List ℕ
track_end = division ∷ 255 ∷ 47 ∷ 0 ∷ []

-- the events of some gaps, from event i on
unfoldable pub tempo_events : (i : ℕ) → List ℕ → List ℕ
tempo_events i [] = []
tempo_events i (gap ∷ gaps) = tempo_event (delta_of i) gap ++ tempo_events (suc i) gaps

-- a track's events
unfoldable pub track_events : List ℕ → List ℕ
unfolding tempo_events
track_events gaps = tempo_events 0 gaps ++ track_end

-- the whole file of some gaps: the track's length is that of its events
unfoldable pub file_of : List ℕ → List ℕ
unfolding track_events
file_of gaps = track_front (length (track_events gaps)) ++ track_events gaps
