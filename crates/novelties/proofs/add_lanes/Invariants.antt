-- `novelties::add_lanes` meets its contract. The invariant: the lanes before j have grown, the others are as they were, so that lane j is read as it
-- came. Assumes nothing.
use mathlib.Core.Path.{◌≡◌}
use Prim.Native.Nat.{◌-◌, ◌≤◌}
use lib.ListN.{length}
use Rattle.numbers.specs.Lists.{filled}
use Rattle.novelties.specs.Lanes.{lane_term}
use Rattle.novelties.proofs.add_lanes.Given as goal

abbrev pub invariant-loop-j : goal.invariant-loop-j
invariant-loop-j l =
    (l.j ≤ 24) × (length l.lanes ≡ 24) × (l.lanes ≡ filled (lane_term l.initial.lanes l.weight l.near l.k) l.initial.lanes 0 l.j)
