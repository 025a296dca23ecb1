-- `bars::phase_sum` meets its contract. The invariant: the sum so far, and then the phase's flux from place i on, is the whole sum. Assumes nothing.
use mathlib.Core.Path.{◌≡◌}
use mathlib.Core.List.{map}
use Prim.Native.Nat.{◌≤◌}
use lib.ListN.{length, drop}
use Rattle.numbers.specs.Rounded.{nought, sum_from}
use Rattle.bars.specs.Downbeats.{beat_flux, in_phase}
use Rattle.bars.proofs.phase_sum.Given as goal

abbrev pub invariant-loop-i : goal.invariant-loop-i
invariant-loop-i l =
    (l.i ≤ length l.beats)
    × (sum_from l.sum (map (beat_flux l.envelope) (in_phase l.meter l.phase l.i (drop l.i l.beats))) ≡ sum_from nought (map (beat_flux l.envelope) (in_phase l.meter l.phase 0 l.beats)))
