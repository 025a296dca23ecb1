-- `flux_rows::rise` meets its contract. The invariant: the sum so far, run on over the bins that are left, is the sum run on from the first. Assumes
-- nothing.
use mathlib.Core.Path.{◌≡◌}
use Prim.Native.Nat.{◌≤◌}
use lib.ListN.{length, drop}
use Rattle.numbers.specs.Rounded.{sum_from}
use Rattle.flux_rows.specs.Rises.{rises}
use Rattle.flux_rows.proofs.rise.Given as goal

abbrev pub invariant-loop-i : goal.invariant-loop-i
invariant-loop-i l = (l.i ≤ length l.prev)
    × (sum_from l.total (rises (drop l.i l.prev) (drop l.i l.cur)) ≡ sum_from l.initial.total (rises (drop l.from l.prev) (drop l.from l.cur)))
