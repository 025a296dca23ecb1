-- `similarities::divide` meets its contract. The invariant: the lanes before d are divided, the others are as they were, so that lane d is read as it
-- came. Assumes nothing.
use mathlib.Core.Path.{◌≡◌}
use Prim.Native.Nat.{◌≤◌}
use lib.ListN.{length}
use Rattle.numbers.specs.Lists.{filled}
use Rattle.similarities.specs.Lanes.{lane_quotient}
use Rattle.similarities.proofs.divide.Given as goal

abbrev pub invariant-loop-d : goal.invariant-loop-d
invariant-loop-d l = (l.d ≤ 17) × (length l.sums ≡ 17) × (l.sums ≡ filled (lane_quotient l.initial.sums l.norms l.c) l.initial.sums 0 l.d)
