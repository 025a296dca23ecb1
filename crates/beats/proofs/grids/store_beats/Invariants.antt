-- `beats::grids::store_beats` meets its contract. The invariant: the beats that end at t, i of them, and then slots i on, are the list that is to
-- stand there. With more than one beat left t has a link; with one it has none. Assumes nothing.
use mathlib.Core.Path.{◌≡◌}
use mathlib.Core.List.{◌++◌}
use Prim.Native.Nat.{◌+◌, ◌≤◌}
use lib.ListN.{length, drop}
use Rattle.numbers.specs.Lists.{listed}
use Rattle.beats.specs.Grids.{link_at, beats_to}
use Rattle.beats.proofs.grids.store_beats.Given as goal

abbrev pub invariant-loop-i : goal.invariant-loop-i
invariant-loop-i l =
    (l.t ≤ l.end) × (1 ≤ l.i) × (l.i ≤ l.t + 1) × (length l.beats ≡ length l.initial.beats) × (l.i ≡ length (beats_to (link_at l.back) l.t))
    × (beats_to (link_at l.back) l.t ++ drop l.i l.beats ≡ listed (beats_to (link_at l.back) l.end) l.initial.beats)
