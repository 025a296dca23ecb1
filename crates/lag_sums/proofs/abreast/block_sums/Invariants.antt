-- `lag_sums::abreast::block_sums` meets its contract. The invariant: the sums are those over the times below t, and t is whole blocks. The
-- measure is the times that are left. Assumes nothing.
use mathlib.Core.Path.{◌≡◌}
use Prim.Native.Nat.{◌≤◌, ◌-◌, ◌%◌}
use Rattle.lag_sums.specs.Lanes.{thirty_two_sums}
use Rattle.lag_sums.proofs.abreast.block_sums.Given as goal

abbrev pub invariant-loop-t : goal.invariant-loop-t
invariant-loop-t l = (l.t ≤ l.past) × (l.t % 128 ≡ 0) × (l.s ≡ thirty_two_sums l.envelope l.mean l.lag l.t)

abbrev pub decreases-loop-t : goal.decreases-loop-t
decreases-loop-t l = l.past - l.t
