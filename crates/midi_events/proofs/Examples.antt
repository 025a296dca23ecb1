-- A file worked by hand from the Standard MIDI Files 1.0 specification: gaps of 58,050 and 87,075 microseconds. Assumes nothing.
use mathlib.Core.Path.{◌≡◌, refl}
use mathlib.Core.Bool.{true}
use mathlib.Core.List.{List, [], ◌∷◌}
use Prim.Native.Nat.{ℕ}
use Rattle.numbers.specs.Lists.{every}
use Rattle.texts.specs.Texts.{starts, exactly}
use Rattle.midi_events.specs.File.{tempo_events, track_events, file_of}
use Rattle.midi_events.specs.Shapes.{gap_in, gaps_in, shaped}

-- its forty bytes: 58,050 is 0x00E2C2, 87,075 is 0x015423, and the track has 18 bytes
abbrev bytes : List ℕ
bytes =
    77 ∷ 84 ∷ 104 ∷ 100 ∷ 0 ∷ 0 ∷ 0 ∷ 6 ∷ 0 ∷ 0 ∷ 0 ∷ 1 ∷ 0 ∷ 96 ∷ 77 ∷ 84 ∷ 114 ∷ 107 ∷ 0 ∷ 0 ∷ 0 ∷ 18 ∷
    0 ∷ 255 ∷ 81 ∷ 3 ∷ 0 ∷ 226 ∷ 194 ∷ 96 ∷ 255 ∷ 81 ∷ 3 ∷ 1 ∷ 84 ∷ 35 ∷ 96 ∷ 255 ∷ 47 ∷ 0 ∷ []

written : file_of (58050 ∷ 87075 ∷ []) ≡ bytes
unfolding file_of track_events tempo_events
written = refl

read : gaps_in bytes ≡ 58050 ∷ 87075 ∷ []
unfolding gaps_in gap_in
read = refl

accepted : shaped bytes ≡ true
unfolding shaped gaps_in gap_in file_of track_events tempo_events exactly starts every
accepted = refl
