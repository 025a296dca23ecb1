-- `row_pairs::dot` meets its contract. The invariant: the products that are left, added to the sum so far, give the whole. Assumes nothing.
use mathlib.Core.Path.{◌≡◌}
use Prim.Native.Nat.{◌≤◌}
use lib.ListN.{drop}
use Rattle.numbers.specs.Rounded.{sum_from}
use Rattle.row_pairs.specs.Pairs.{products, dot_of}
use Rattle.row_pairs.proofs.dot.Given as goal

abbrev pub invariant-loop-k : goal.invariant-loop-k
invariant-loop-k l = (l.k ≤ 16) × (sum_from l.sum (products (drop l.k l.a) (drop l.k l.b)) ≡ dot_of l.a l.b)
