-- `novelties::block_slots` meets its contract. The invariant: in each lane the rows of the kernel that are left, taken from the lane's sum, give the
-- whole. Assumes nothing.
use mathlib.Core.Path.{◌≡◌}
use Prim.Native.Nat.{ℕ, ◌-◌, ◌≤◌, ◌<◌}
use lib.ListN.{length, get_or}
use lib.Ieee.{nan}
use Rattle.novelties.specs.Novelty.{turns}
use Rattle.novelties.specs.Lanes.{near_row, lane_whole}
use Rattle.novelties.proofs.block_slots.Given as goal

abbrev pub invariant-loop-u : goal.invariant-loop-u
invariant-loop-u l =
    (l.u ≤ 16) × (length l.lanes ≡ 24) × ((j : ℕ) → j < 24 → turns (near_row l.near j) l.u (16 - l.u) (get_or l.lanes j nan) ≡ lane_whole l.near j)
