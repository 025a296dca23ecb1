-- Document 02, No. 3: "Add the reader too: it takes exactly this shape, with one gap at least, and gives back the microsecond gaps".
use Rattle.std.specs.Prelude.{ℕ, ◌+◌, ◌-◌, ◌*◌, ◌/◌, Bool, ◌&&◌, List, leb, ltb, length, get_or}
use Rattle.numbers.specs.Lists.{curve, every}
use Rattle.texts.specs.Texts.{exactly}
use Rattle.midi_events.specs.File.{track_events, file_of}

-- ---- the gaps of a file

-- "k beats take 26 + 7·(k-1) bytes", and k beats have k - 1 gaps
abbrev pub track_room : (gaps : ℕ) → ℕ
track_room gaps = 26 + gaps * 7

-- how many gaps a file of the written shape has
abbrev pub count_in : List ℕ → ℕ
count_in file = (length file - 26) / 7

-- 24 bits, the high byte first
abbrev pub tempo_from : (a b c : ℕ) → ℕ
tempo_from a b c = a * 65536 + b * 256 + c

-- the tempo of event i, where the written shape has it
unfoldable pub gap_in : List ℕ → ℕ → ℕ
gap_in file i = let at = 26 + i * 7 in tempo_from (get_or file at 0) (get_or file (at + 1) 0) (get_or file (at + 2) 0)

unfoldable pub gaps_in : List ℕ → List ℕ
unfolding gap_in
gaps_in file = curve (gap_in file) (count_in file)

-- ---- the shape

-- a tempo that is not 0
abbrev pub tempo_some : ℕ → Bool
tempo_some gap = leb 1 gap

-- "8 for a file of another shape or a tempo of 0": the file is exactly the one that its own gaps are written as, there is one gap at least, and none
-- is 0. A track's length has 32 bits.
unfoldable pub shaped : List ℕ → Bool
unfolding gaps_in file_of exactly every
shaped file =
    let gaps = gaps_in file in
    leb 1 (length gaps) && (ltb (length (track_events gaps)) 4294967296 && (exactly (file_of gaps) file && every tempo_some gaps))
