-- `feature_lanes::add_row` meets its contract. The invariant: each lane's row was added up to bin k. The measure is the bins that are left. Assumes nothing.
use Prim.Native.Nat.{◌-◌, ◌≤◌}
use mathlib.Core.Path.{◌≡◌}
use lib.ListN.{length}
use Rattle.feature_lanes.proofs.Addends.{Lanes}
use Rattle.feature_lanes.proofs.add_row.Given as goal

abbrev pub invariant-loop-k : goal.invariant-loop-k
invariant-loop-k l =
    (l.k ≤ 2049) × (length l.classes ≡ 52) × (length l.bands ≡ 12) × Lanes l.codes l.a l.b l.c l.d l.k l.initial.classes l.initial.bands l.classes l.bands

abbrev pub decreases-loop-k : goal.decreases-loop-k
decreases-loop-k l = 2049 - l.k
