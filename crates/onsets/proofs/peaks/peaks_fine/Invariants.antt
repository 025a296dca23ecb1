-- `onsets::peaks::peaks_fine` meets its contract. The invariant: the two tests of the whole list are those of what is left, which has to ascend from
-- past the entry before it. Assumes nothing.
use mathlib.Core.Bool.{◌&&◌}
use mathlib.Core.Path.{◌≡◌}
use Prim.Native.Nat.{◌≤◌}
use lib.ListN.{length, drop}
use Rattle.numbers.specs.Lists.{ascending}
use Rattle.onsets.specs.Peaks.{point_into}
use Rattle.onsets.proofs.peaks.peaks_fine.Given as goal

abbrev pub invariant-loop-i : goal.invariant-loop-i
invariant-loop-i l =
    (l.i ≤ length l.peaks) × ((ascending 0 l.peaks && point_into l.slots l.peaks) ≡ (ascending l.low (drop l.i l.peaks) && point_into l.slots (drop l.i l.peaks)))
