-- `labels::read_labels` meets its contract. The invariant: the lines from `at` on are of the form and have listed times, n frames are written, and those that
-- are left are theirs. The measure is what is left of the text. Assumes nothing.
use mathlib.Core.Path.{◌≡◌}
use mathlib.Core.Bool.{true}
use Prim.Native.Nat.{◌+◌, ◌-◌, ◌≤◌}
use lib.ListN.{length, take, drop}
use Rattle.numbers.specs.Lists.{every, listed}
use Rattle.label_times.specs.Frames.{time_fine}
use Rattle.label_tracks.specs.Tracks.{frames_for, text_times, text_frames}
use Rattle.label_tracks.proofs.Tracks.{fine_from, times_from}
use Rattle.labels.proofs.read_labels.Given as goal

abbrev pub invariant-loop-at : goal.invariant-loop-at
invariant-loop-at l =
    (l.at ≤ length l.text) × (fine_from l.text l.at ≡ true) × (every (time_fine l.rate) (times_from l.text l.at) ≡ true)
    × (l.n + length (times_from l.text l.at) ≡ length (text_times l.text)) × (drop l.n (text_frames l.rate l.text) ≡ frames_for l.rate (times_from l.text l.at))
    × (l.frames ≡ listed (take l.n (text_frames l.rate l.text)) l.initial.frames)

abbrev pub decreases-loop-at : goal.decreases-loop-at
decreases-loop-at l = length l.text - l.at
