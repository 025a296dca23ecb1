-- `threshold::fill_whole` meets its contract. The invariant: the slots up to t are written, s holds the window of the slot before t, sorted, and value
-- is that slot's threshold. Assumes nothing.
use mathlib.Core.Path.{◌≡◌}
use mathlib.Core.List.{map}
use Prim.Native.Nat.{◌-◌, ◌≤◌}
use lib.ListN.{length}
use Rattle.numbers.specs.Lists.{around, filled}
use Rattle.median.specs.Median.{sort}
use Rattle.windows.specs.Windows.{one_zero}
use Rattle.threshold.specs.Threshold.{reach, threshold_at}
use Rattle.threshold.proofs.fill_whole.Given as goal

abbrev pub invariant-loop-t : goal.invariant-loop-t
invariant-loop-t l =
    (l.from ≤ l.t) × (l.t ≤ l.past) × (length l.threshold ≡ length l.initial.threshold) × (l.threshold ≡ filled (threshold_at l.flux) l.initial.threshold l.from l.t)
    × (l.s ≡ sort (map one_zero (around reach l.flux (l.t - 1)))) × (l.value ≡ threshold_at l.flux (l.t - 1))
