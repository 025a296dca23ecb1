-- `similarities::root_all` meets its contract. The invariant: the norms before r are written, the others are as they were. Assumes nothing.
use mathlib.Core.Path.{◌≡◌}
use Prim.Native.Nat.{◌≤◌}
use lib.ListN.{length}
use Rattle.numbers.specs.Lists.{filled}
use Rattle.similarities.specs.Lanes.{root_at}
use Rattle.similarities.proofs.root_all.Given as goal

abbrev pub invariant-loop-r : goal.invariant-loop-r
invariant-loop-r l = (l.r ≤ 128) × (length l.norms ≡ 128) × (l.norms ≡ filled (root_at l.squares) l.initial.norms 0 l.r)
