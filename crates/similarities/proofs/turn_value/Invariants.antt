-- `similarities::turn_value` meets its contract. The invariant: the first r of the value's places are written, the others are as they were. Assumes
-- nothing.
use mathlib.Core.Path.{◌≡◌}
use Prim.Native.Nat.{◌+◌, ◌*◌, ◌≤◌}
use lib.ListN.{length}
use Rattle.numbers.specs.Lists.{filled}
use Rattle.similarities.specs.Lanes.{turned_at}
use Rattle.similarities.proofs.turn_value.Given as goal

abbrev pub invariant-loop-r : goal.invariant-loop-r
invariant-loop-r l =
    (l.r ≤ l.count) × (length l.turned ≡ 2048) × (l.turned ≡ filled (turned_at l.features l.first) l.initial.turned (l.k * 128) (l.k * 128 + l.r))
