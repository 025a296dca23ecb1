-- `lag_sums::abreast::eight_sums` meets its contract. The invariant: the eight sums are those over the times below t, and an even number of
-- times is left. The measure is those times; `eight_two` makes a turn's two steps. Assumes nothing.
use mathlib.Core.Path.{◌≡◌}
use Prim.Native.Nat.{◌≤◌, ◌-◌, ◌%◌}
use Rattle.lag_sums.specs.Lanes.{eight_sums}
use Rattle.lag_sums.proofs.abreast.eight_sums.Given as goal

abbrev pub invariant-loop-t : goal.invariant-loop-t
invariant-loop-t l = (l.t ≤ l.past) × ((l.past - l.t) % 2 ≡ 0) × (l.s ≡ eight_sums l.envelope l.mean l.lag l.t)

abbrev pub decreases-loop-t : goal.decreases-loop-t
decreases-loop-t l = l.past - l.t
