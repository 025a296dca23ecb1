-- `cues::chunk_refusal` meets its contract. The invariant: the test of all points is that of those from i on, and the number of all offsets is that of what
-- was read and those. Assumes nothing.
use mathlib.Core.Path.{◌≡◌}
use Prim.Native.Nat.{◌-◌}
use Rattle.lists.specs.Grids.{unread}
use Rattle.cue_points.specs.Chunks.{all_from, point_fine}
use Rattle.cues.proofs.Calls.{judged_from}
use Rattle.cues.proofs.chunk_refusal.Given as goal

abbrev pub invariant-loop-i : goal.invariant-loop-i
invariant-loop-i l =
    (all_from (point_fine l.chunk) 0 l.n ≡ all_from (point_fine l.chunk) l.i (l.n - l.i))
    × (judged_from l.chunk unread 0 l.n ≡ judged_from l.chunk l.j l.i l.n)
