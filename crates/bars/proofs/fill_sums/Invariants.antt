-- `bars::fill_sums` meets its contract. The invariant: the slots below the phase are written by the rule. Assumes nothing.
use mathlib.Core.Path.{◌≡◌}
use Prim.Native.Nat.{◌≤◌}
use lib.ListN.{length}
use Rattle.numbers.specs.Lists.{filled}
use Rattle.bars.specs.Downbeats.{phase_sum}
use Rattle.bars.proofs.fill_sums.Given as goal

abbrev pub invariant-loop-phase : goal.invariant-loop-phase
invariant-loop-phase l =
    (l.phase ≤ l.meter) × (length l.sums ≡ length l.initial.sums) × (l.sums ≡ filled (phase_sum l.envelope l.beats l.meter) l.initial.sums 0 l.phase)
