-- `similarities::row_dots` meets its contract. The invariant: in each lane past the first the products that are left, added to the lane's sum, give the
-- dot product of the row with the lane's column. Assumes nothing.
use mathlib.Core.Path.{◌≡◌}
use Prim.Native.Nat.{ℕ, ◌+◌, ◌≤◌, ◌<◌}
use lib.ListN.{length, get_or, drop}
use lib.Ieee.{nan}
use Rattle.numbers.specs.Rounded.{sum_from}
use Rattle.row_pairs.specs.Pairs.{products, dot_of}
use Rattle.similarities.specs.Lanes.{turned_column}
use Rattle.similarities.proofs.row_dots.Given as goal

abbrev pub invariant-loop-k : goal.invariant-loop-k
invariant-loop-k l =
    (l.k ≤ 16)
    × (length l.sums ≡ 17)
    × ((d : ℕ) → 0 < d → d < 17
    → sum_from (get_or l.sums d nan) (products (drop l.k l.row) (drop l.k (turned_column l.turned (l.c + d)))) ≡ dot_of l.row (turned_column l.turned (l.c + d)))
