-- Document 02, No. 3: the gaps of a grid of beats in microseconds, and which grids have them.
use Rattle.std.specs.Prelude.{ℕ, ◌+◌, ◌-◌, Bool, ◌&&◌, List, leb, length, get_or}
use Rattle.numbers.specs.Limits.{rate_fine, frame_fine, at_most}
use Rattle.numbers.specs.Lists.{curve, every, ascending}
use Rattle.times.specs.Micros.{microseconds}

-- "A beat's time is rounded half up to whole microseconds": that of beat i
abbrev pub time_at : (rate : ℕ) → List ℕ → ℕ → ℕ
time_at rate beats i = microseconds (get_or beats i 0) rate

-- "and each tempo is the difference of two such times": from beat i to the next
unfoldable pub gap_at : (rate : ℕ) → List ℕ → ℕ → ℕ
gap_at rate beats i = time_at rate beats (i + 1) - time_at rate beats i

-- "one .. per beat gap"
unfoldable pub gaps_of : (rate : ℕ) → List ℕ → List ℕ
unfolding gap_at
gaps_of rate beats = curve (gap_at rate beats) (length beats - 1)

-- ---- the tests of a grid

-- number 1 else: the rate is 1 to 192,000, and each frame at most 1,048,575
unfoldable pub tempo_track_numbers_fine : (rate : ℕ) → List ℕ → Bool
unfolding every
tempo_track_numbers_fine rate beats = rate_fine rate && every frame_fine beats

-- "6 for fewer than two beats or frames not strictly ascending"
unfoldable pub is_grid : List ℕ → Bool
unfolding ascending
is_grid beats = leb 2 (length beats) && ascending 0 beats

-- the longest tempo that three bytes hold
abbrev pub most_tempo : ℕ
most_tempo = 16777215

-- "7 for a gap above 16,777,215"
unfoldable pub gaps_fit : (rate : ℕ) → List ℕ → Bool
unfolding gaps_of every
gaps_fit rate beats = every (at_most most_tempo) (gaps_of rate beats)
