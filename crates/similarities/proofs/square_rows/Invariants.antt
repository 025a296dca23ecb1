-- `similarities::square_rows` meets its contract. The invariant: the sums before r are written, the others are as they were. Assumes nothing.
use mathlib.Core.Path.{◌≡◌}
use Prim.Native.Nat.{◌≤◌}
use lib.ListN.{length}
use Rattle.numbers.specs.Lists.{filled}
use Rattle.similarities.specs.Lanes.{square_at}
use Rattle.similarities.proofs.square_rows.Given as goal

abbrev pub invariant-loop-r : goal.invariant-loop-r
invariant-loop-r l =
    (l.r ≤ l.count) × (length l.squares ≡ 128) × (l.squares ≡ filled (square_at l.features l.first) l.initial.squares 0 l.r)
