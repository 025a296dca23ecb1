-- `lag_sums::lag_rest` meets its contract. The invariant: z is the sum over the times below t. Assumes nothing.
use mathlib.Core.Path.{◌≡◌}
use Prim.Native.Nat.{◌≤◌, ◌-◌}
use lib.ListN.{length}
use Rattle.lag_sums.proofs.Products.{sum_to}
use Rattle.lag_sums.proofs.lag_rest.Given as goal

abbrev pub invariant-loop-t : goal.invariant-loop-t
invariant-loop-t l = (l.t ≤ length l.envelope - l.lag) × (l.z ≡ sum_to l.envelope l.mean l.lag l.t)
