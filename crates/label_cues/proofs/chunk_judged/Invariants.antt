-- `label_cues::chunk_judged` meets its contract. The invariant: the test of all points is that of those from i on, the number of all offsets is that of what
-- was read and those, and the total is the length of the track of the frames so far, 41 bytes a frame at most. Assumes nothing.
use mathlib.Core.Path.{◌≡◌}
use Prim.Native.Nat.{◌*◌, ◌-◌, ◌≤◌}
use lib.ListN.{length}
use Rattle.lists.specs.Grids.{unread}
use Rattle.cue_points.specs.Chunks.{chunk_frames, all_from, point_fine}
use Rattle.cues.proofs.Calls.{judged_from}
use Rattle.labels.proofs.Written.{labels_to}
use Rattle.label_cues.proofs.chunk_judged.Given as goal

abbrev pub invariant-loop-i : goal.invariant-loop-i
invariant-loop-i l =
    (all_from (point_fine l.chunk) 0 l.n ≡ all_from (point_fine l.chunk) l.i (l.n - l.i))
    × (judged_from l.chunk unread 0 l.n ≡ judged_from l.chunk l.j l.i l.n)
    × (l.total ≤ 41 * l.i)
    × (l.total ≡ length (labels_to l.rate (chunk_frames l.chunk) l.i))
