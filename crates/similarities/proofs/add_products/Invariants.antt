-- `similarities::add_products` meets its contract. The invariant: lanes 1 to j - 1 have grown, the others are as they were, so that lane j is read as it
-- came. Assumes nothing.
use mathlib.Core.Path.{◌≡◌}
use Prim.Native.Nat.{◌≤◌}
use lib.ListN.{length}
use Rattle.numbers.specs.Lists.{filled}
use Rattle.similarities.specs.Lanes.{lane_product}
use Rattle.similarities.proofs.add_products.Given as goal

abbrev pub invariant-loop-j : goal.invariant-loop-j
invariant-loop-j l = (1 ≤ l.j) × (l.j ≤ 17) × (length l.sums ≡ 17) × (l.sums ≡ filled (lane_product l.initial.sums l.x l.turned l.at) l.initial.sums 1 l.j)
