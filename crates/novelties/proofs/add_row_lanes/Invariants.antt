-- `novelties::add_row_lanes` meets its contract. The invariant: in each lane the steps that are left, taken from the lane's sum, give the whole row of
-- the kernel. Assumes nothing.
use mathlib.Core.Path.{◌≡◌}
use Prim.Native.Nat.{ℕ, ◌-◌, ◌≤◌, ◌<◌}
use lib.ListN.{length, get_or}
use lib.Ieee.{nan}
use Rattle.novelties.specs.Novelty.{turns}
use Rattle.novelties.specs.Lanes.{near_term, near_row}
use Rattle.novelties.proofs.add_row_lanes.Given as goal

abbrev pub invariant-loop-v : goal.invariant-loop-v
invariant-loop-v l =
    (l.v ≤ 16)
    × (length l.lanes ≡ 24)
    × ((j : ℕ) → j < 24 → turns (near_term l.near j l.u) l.v (16 - l.v) (get_or l.lanes j nan) ≡ near_row l.near j l.u (get_or l.initial.lanes j nan))
