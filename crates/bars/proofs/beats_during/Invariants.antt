-- `bars::beats_during` meets its contract. The invariant: the count so far and the count of what is left are the whole count. Assumes nothing.
use mathlib.Core.Path.{◌≡◌}
use Prim.Native.Nat.{◌+◌, ◌≤◌}
use lib.ListN.{length, drop}
use Rattle.bars.specs.BarBeats.{during, passing}
use Rattle.bars.proofs.beats_during.Given as goal

abbrev pub invariant-loop-i : goal.invariant-loop-i
invariant-loop-i l =
    (l.i ≤ length l.beats) × (l.count ≤ l.i) × (l.count + passing (during l.lo l.hi) (drop l.i l.beats) ≡ passing (during l.lo l.hi) l.beats)
