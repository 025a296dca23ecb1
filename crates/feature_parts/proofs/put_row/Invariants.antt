-- `feature_parts::put_row` meets its contract. The invariant: the first j values are written. Assumes nothing.
use Prim.Native.Nat.{◌+◌, ◌-◌, ◌*◌, ◌≤◌}
use mathlib.Core.Path.{◌≡◌}
use lib.ListN.{length}
use Rattle.numbers.specs.Lists.{filled}
use Rattle.feature_parts.specs.Parts.{lane_value}
use Rattle.feature_parts.proofs.put_row.Given as goal

abbrev pub invariant-loop-j : goal.invariant-loop-j
invariant-loop-j l =
    (l.j ≤ 16)
    × (length l.features ≡ length l.initial.features)
    × (l.features ≡ filled (lane_value l.classes l.bands l.lane l.rms) l.initial.features (l.i * 16) (l.i * 16 + l.j))
