-- `section_peaks::group_of` meets its contract. The invariant: t is the next peak, and the bests of the group with this best and of the peaks from t on
-- are those of the whole. The measure is what is left of the curve. Assumes nothing.
use mathlib.Core.Path.{◌≡◌}
use Prim.Native.Nat.{◌-◌, ◌<◌}
use lib.ListN.{length}
use Rattle.onsets.specs.Peaks.{bests}
use Rattle.section_peaks.specs.Steps.{peaks_from, kept_from, AtPeak}
use Rattle.section_peaks.proofs.group_of.Given as goal

abbrev pub invariant-loop-t : goal.invariant-loop-t
invariant-loop-t l = (l.last ≡ length l.curve - 1) × (l.peak < l.t) × (l.best < l.t) × (l.best < l.last) × AtPeak l.curve l.level l.t
    × (bests l.curve l.gap l.best (peaks_from l.curve l.level l.t) ≡ kept_from l.curve l.level l.gap l.peak)

abbrev pub decreases-loop-t : goal.decreases-loop-t
decreases-loop-t l = length l.curve - l.t
