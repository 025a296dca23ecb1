-- `feature_sums::add_rows` meets its contract. The invariant: each lane has the sums of its first r rows, or of all where it has fewer. Assumes nothing.
use Prim.Native.Nat.{◌-◌, ◌≤◌, min}
use mathlib.Core.Path.{◌≡◌}
use lib.ListN.{length}
use Rattle.feature_sums.specs.Lanes.{LaneSums}
use Rattle.feature_sums.proofs.add_rows.Given as goal

abbrev pub invariant-loop-r : goal.invariant-loop-r
invariant-loop-r l =
    (l.r ≤ l.most)
    × (length l.classes ≡ 52)
    × (length l.bands ≡ 12)
    × LaneSums l.codes l.magnitudes l.p0 (min l.r (l.p1 - l.p0)) l.classes l.bands 0
    × LaneSums l.codes l.magnitudes l.p1 (min l.r (l.p2 - l.p1)) l.classes l.bands 1
    × LaneSums l.codes l.magnitudes l.p2 (min l.r (l.p3 - l.p2)) l.classes l.bands 2
    × LaneSums l.codes l.magnitudes l.p3 (min l.r (l.p4 - l.p3)) l.classes l.bands 3
