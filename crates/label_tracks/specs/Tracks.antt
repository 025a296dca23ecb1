-- Document 02, No. 6: "label tracks: start, tab, end, tab, the word beat, line feed" for each beat: a track is its lines. And what refuses one: "9 for a
-- line .. not of this form, 10 for a time .. that is no listed frame's, 11 for frames not strictly ascending, in that order after 1".
use Rattle.std.specs.Prelude.{ℕ, zero, suc, Bool, true, ◌&&◌, List, [], ◌∷◌, ◌++◌, eqb, length, drop}
use Rattle.numbers.specs.Limits.{rate_fine}
use Rattle.numbers.specs.Lists.{every, ascending}
use Rattle.numbers.specs.Refusals.{Row, out_of_bounds, not_of_this_form, no_listed_frame, not_ascending}
use Rattle.numbers.specs.Rounded.{pick}
use Rattle.times.specs.Micros.{microseconds}
use Rattle.label_times.specs.Frames.{frame_for, time_fine}
use Rattle.label_lines.specs.Lines.{label_line, line_fine, line_length, time_of}

-- ---- as it is written

-- the lines of times
unfoldable pub label_lines : List ℕ → List ℕ
unfolding label_line
label_lines [] = []
label_lines (u ∷ us) = label_line u ++ label_lines us

-- the times of frames
unfoldable pub times_for : (rate : ℕ) → List ℕ → List ℕ
unfolding microseconds
times_for rate [] = []
times_for rate (t ∷ ts) = microseconds t rate ∷ times_for rate ts

-- the label track of frames
unfoldable pub label_bytes : (rate : ℕ) → List ℕ → List ℕ
unfolding label_lines times_for
label_bytes rate frames = label_lines (times_for rate frames)

-- ---- as it is read

-- each line is of the form, at most k of them
unfoldable pub lines_fine : ℕ → List ℕ → Bool
unfolding line_fine
lines_fine zero text = eqb (length text) 0
lines_fine (suc k) text = pick (eqb (length text) 0) true (line_fine text && lines_fine k (drop (line_length text) text))

-- their times
unfoldable pub times_of : ℕ → List ℕ → List ℕ
unfolding time_of
times_of zero text = []
times_of (suc k) text = pick (eqb (length text) 0) [] (time_of text ∷ times_of k (drop (line_length text) text))

-- the frames of times
unfoldable pub frames_for : (rate : ℕ) → List ℕ → List ℕ
unfolding frame_for
frames_for rate [] = []
frames_for rate (u ∷ us) = frame_for u rate ∷ frames_for rate us

-- of a whole text, which has no more lines than bytes: its form, its times, its frames
abbrev pub text_fine : List ℕ → Bool
text_fine text = lines_fine (length text) text

abbrev pub text_times : List ℕ → List ℕ
text_times text = times_of (length text) text

abbrev pub text_frames : (rate : ℕ) → List ℕ → List ℕ
text_frames rate text = frames_for rate (text_times text)

-- what refuses a text: 1, 9, 10, 11, each of them of the whole text
abbrev pub text_rows : (rate : ℕ) → List ℕ → List Row
text_rows rate text =
    (rate_fine rate, out_of_bounds)
    ∷ (text_fine text, not_of_this_form)
    ∷ (every (time_fine rate) (text_times text), no_listed_frame)
    ∷ (ascending 0 (text_frames rate text), not_ascending)
    ∷ []
