-- `section_peaks::next_peak` meets its contract. The invariant: the peaks from the first slot on are those from t on. Assumes nothing.
use mathlib.Core.Path.{◌≡◌}
use Prim.Native.Nat.{◌≤◌, ◌-◌, max}
use lib.ListN.{length}
use Rattle.section_peaks.specs.Steps.{peaks_from}
use Rattle.section_peaks.proofs.next_peak.Given as goal

abbrev pub invariant-loop-t : goal.invariant-loop-t
invariant-loop-t l =
    (l.last ≡ length l.curve - 1) × (l.from ≤ l.t) × (l.t ≤ max l.from l.last)
    × (peaks_from l.curve l.level l.from ≡ peaks_from l.curve l.level l.t)
