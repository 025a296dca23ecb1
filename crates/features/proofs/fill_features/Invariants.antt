-- `features::fill_features` meets its contract. The invariant: the feature rows before row i are written, and row t of the transform is the first of the
-- others'. The measure is the feature rows that are left. Assumes nothing.
use Prim.Native.Nat.{◌+◌, ◌-◌, ◌*◌, ◌≤◌, min}
use mathlib.Core.Path.{◌≡◌}
use lib.ListN.{length}
use Rattle.numbers.specs.Lists.{filled}
use Rattle.features.specs.Features.{feature_at}
use Rattle.features.specs.Groups.{RowsSplit}
use Rattle.features.proofs.fill_features.Given as goal

abbrev pub invariant-loop-i : goal.invariant-loop-i
invariant-loop-i l = (l.i ≤ l.grid.count + 3)
    × (length l.features ≡ length l.initial.features)
    × RowsSplit l.grid l.rows l.i l.t
    × (l.features ≡ filled (feature_at l.magnitudes l.rows l.samples l.grid) l.initial.features 0 (min l.i l.grid.count * 16))

abbrev pub decreases-loop-i : goal.decreases-loop-i
decreases-loop-i l = l.grid.count - l.i
