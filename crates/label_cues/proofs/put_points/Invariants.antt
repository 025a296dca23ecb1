-- `label_cues::put_points` meets its contract. The invariant: the lines from `at` on are of the form and have listed times, their frames are those that are
-- left, and the points of the frames so far are written. The measure is what is left of the text. Assumes nothing.
use mathlib.Core.Path.{◌≡◌}
use mathlib.Core.Bool.{true}
use Prim.Native.Nat.{◌+◌, ◌-◌, ◌≤◌}
use lib.ListN.{length, drop}
use Rattle.numbers.specs.Lists.{every}
use Rattle.texts.specs.Texts.{Put}
use Rattle.cues.proofs.Chunks.{points_to}
use Rattle.label_times.specs.Frames.{time_fine}
use Rattle.label_tracks.specs.Tracks.{frames_for, text_frames}
use Rattle.label_tracks.proofs.Tracks.{fine_from, times_from}
use Rattle.label_cues.proofs.put_points.Given as goal

abbrev pub invariant-loop-at : goal.invariant-loop-at
invariant-loop-at l =
    (l.at ≤ length l.text)
    × (fine_from l.text l.at ≡ true)
    × (every (time_fine l.rate) (times_from l.text l.at) ≡ true)
    × (l.i + length (times_from l.text l.at) ≡ length (text_frames l.rate l.text))
    × (drop l.i (text_frames l.rate l.text) ≡ frames_for l.rate (times_from l.text l.at))
    × Put l.initial.out 12 (points_to (text_frames l.rate l.text) l.i) l.end l.out

abbrev pub decreases-loop-at : goal.decreases-loop-at
decreases-loop-at l = length l.text - l.at
