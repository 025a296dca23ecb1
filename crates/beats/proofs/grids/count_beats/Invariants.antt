-- `beats::grids::count_beats` meets its contract. The invariant: the beats counted, of which t is the last but one less, and those that end at t
-- are the whole. The measure is t, since a link leads to an earlier frame. Assumes nothing.
use mathlib.Core.Path.{◌≡◌}
use Prim.Native.Nat.{◌+◌, ◌≤◌}
use lib.ListN.{length}
use Rattle.beats.specs.Grids.{link_at, beats_to}
use Rattle.beats.proofs.grids.count_beats.Given as goal

abbrev pub invariant-loop-t : goal.invariant-loop-t
invariant-loop-t l =
    (l.t ≤ l.end) × (l.count + length (beats_to (link_at l.back) l.t) ≡ length (beats_to (link_at l.back) l.end) + 1)

abbrev pub decreases-loop-t : goal.decreases-loop-t
decreases-loop-t l = l.t
