-- `label_tracks::text_judged` meets its contract. The invariant: the test of all lines is that of those from `at` on, n lines stand before it, and the number
-- of all times is that of what was read and of those. The measure is what is left of the text. Assumes nothing.
use mathlib.Core.Path.{◌≡◌}
use Prim.Native.Nat.{◌+◌, ◌-◌, ◌≤◌}
use lib.ListN.{length}
use Rattle.lists.specs.Grids.{unread}
use Rattle.label_tracks.specs.Tracks.{text_fine, text_times}
use Rattle.label_tracks.proofs.Tracks.{fine_from, times_from}
use Rattle.label_tracks.proofs.Frames.{judged_from}
use Rattle.label_tracks.proofs.text_judged.Given as goal

abbrev pub invariant-loop-at : goal.invariant-loop-at
invariant-loop-at l =
    (l.at ≤ length l.text)
    × (text_fine l.text ≡ fine_from l.text l.at)
    × (l.n ≤ l.at)
    × (l.n + length (times_from l.text l.at) ≡ length (text_times l.text))
    × (judged_from l.rate unread (text_times l.text) ≡ judged_from l.rate l.j (times_from l.text l.at))

abbrev pub decreases-loop-at : goal.decreases-loop-at
decreases-loop-at l = length l.text - l.at
