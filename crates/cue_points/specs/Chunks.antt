-- Document 02, No. 6: "a RIFF WAVE cue chunk: id, size, count, then 24 bytes a point, name from 1 upward, position and sample offset both
-- 256t + 512, chunk id data, the other two fields 0".
use Rattle.std.specs.Prelude.{ℕ, zero, suc, ◌+◌, ◌-◌, ◌*◌, ◌/◌, ◌%◌, Bool, true, ◌&&◌, List, [], ◌∷◌, ◌++◌, leb, eqb, length, drop}
use Rattle.numbers.specs.Limits.{most_frame}
use Rattle.numbers.specs.Lists.{curve}
use Rattle.numbers.specs.Rounded.{pick}
use Rattle.lists.specs.declared.Reading.{Reading}
use Rattle.lists.specs.Grids.{next_read, missed}
use Rattle.times.specs.Micros.{sample_of}
use Rattle.words.specs.Words.{word, word_at}

-- ---- as it is written

-- `cue `
abbrev pub cue_name : List ℕ
cue_name = 99 ∷ 117 ∷ 101 ∷ 32 ∷ []

-- `data`
abbrev pub data_name : List ℕ
data_name = 100 ∷ 97 ∷ 116 ∷ 97 ∷ []

-- the offsets of frames: 256t + 512
unfoldable pub offsets_of : List ℕ → List ℕ
offsets_of [] = []
offsets_of (t ∷ ts) = sample_of t ∷ offsets_of ts

-- point i, from 0 upward, whose name is from 1 upward: name, position, chunk id, two fields, sample offset
unfoldable pub point : (i offset : ℕ) → List ℕ
unfolding word
point i offset = word (i + 1) ++ word offset ++ data_name ++ word 0 ++ word 0 ++ word offset

-- points from i upward
unfoldable pub points_from : (i : ℕ) → List ℕ → List ℕ
unfolding point
points_from i [] = []
points_from i (o ∷ os) = point i o ++ points_from (suc i) os

-- what stands before n points: the size is that of what follows it
unfoldable pub head_of : ℕ → List ℕ
unfolding word
head_of n = cue_name ++ word (4 + 24 * n) ++ word n

-- the chunk of these offsets
unfoldable pub chunk_of : List ℕ → List ℕ
unfolding head_of points_from
chunk_of os = head_of (length os) ++ points_from 0 os

-- the chunk of these frames
unfoldable pub cue_bytes : List ℕ → List ℕ
unfolding chunk_of offsets_of
cue_bytes ts = chunk_of (offsets_of ts)

-- how many bytes a chunk of n points has
abbrev pub chunk_length : ℕ → ℕ
chunk_length n = 12 + 24 * n

-- ---- as it is read

-- `cue ` and `data` as words
abbrev pub cue_word : ℕ
cue_word = 543520099

abbrev pub data_word : ℕ
data_word = 1635017060

-- how many points a chunk says that it has
abbrev pub count_of : List ℕ → ℕ
count_of c = word_at c 8

-- its id, its size, and as many bytes as that says
unfoldable pub head_fine : List ℕ → Bool
head_fine c =
    leb 12 (length c) && (eqb (word_at c 0) cue_word && (eqb (word_at c 4) (4 + 24 * count_of c) && eqb (length c) (chunk_length (count_of c))))

-- the bytes from point i on
abbrev pub point_at : List ℕ → ℕ → List ℕ
point_at c i = drop (12 + i * 24) c

-- the six fields of point i
abbrev pub fields_fine : (i name position id first second offset : ℕ) → Bool
fields_fine i name position id first second offset =
    eqb name (i + 1) && (eqb id data_word && (eqb first 0 && (eqb second 0 && eqb position offset)))

abbrev pub point_fine : List ℕ → ℕ → Bool
point_fine c i =
    let p = point_at c i in
    fields_fine i (word_at p 0) (word_at p 4) (word_at p 8) (word_at p 12) (word_at p 16) (word_at p 20)

-- the n points from s on all pass
unfoldable pub all_from : (ℕ → Bool) → (s n : ℕ) → Bool
all_from p s zero = true
all_from p s (suc n) = p s && all_from p (suc s) n

-- a chunk of this form
unfoldable pub chunk_fine : List ℕ → Bool
unfolding head_fine all_from
chunk_fine c = head_fine c && all_from (point_fine c) 0 (count_of c)

-- the offset of point i
abbrev pub offset_at : List ℕ → ℕ → ℕ
offset_at c i = word_at (point_at c i) 20

-- the offset of a listed frame
abbrev pub offset_fine : ℕ → Bool
offset_fine o = leb 512 o && (eqb (o % 256) 0 && leb o (sample_of most_frame))

-- and that frame
abbrev pub offset_frame : ℕ → ℕ
offset_frame o = (o - 512) / 256

-- the frame of point i
abbrev pub point_frame : List ℕ → ℕ → ℕ
point_frame c i = offset_frame (offset_at c i)

-- the frames of a chunk's points
unfoldable pub chunk_frames : List ℕ → List ℕ
chunk_frames c = curve (point_frame c) (count_of c)

-- one offset more that is read
unfoldable pub offset_read : Reading → (offset : ℕ) → Reading
offset_read j o = pick (offset_fine o) (next_read j (offset_frame o)) (missed j)
