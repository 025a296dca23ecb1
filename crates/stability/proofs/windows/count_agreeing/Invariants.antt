-- `stability::windows::count_agreeing` meets its contract. The invariant of the windows: those passed are counted, and the lag room is as it was but
-- for its first slots. That of the folds: none of those passed fits, so the search of all of them is the search of what is left, and nothing was
-- counted meanwhile. A window then ends in one of three ways: without a tempo, after the
-- last fold, or at the first fold that fits, and each counts it as its definition does. Assumes nothing.
use mathlib.Core.Path.{◌≡◌}
use Prim.Native.Nat.{◌≤◌}
use lib.ListN.{drop}
use Rattle.numbers.specs.Outcomes.{Open}
use Rattle.lags.specs.Lags.{lag_room}
use Rattle.lags.specs.Pairs.{folds, fold_fits, some, agrees}
use Rattle.stability.specs.Windows.{agreeing_to}
use Rattle.stability.proofs.windows.count_agreeing.Given as goal

abbrev pub invariant-loop-fold : goal.invariant-loop-fold
invariant-loop-fold l =
    (l.agreeing ≡ l.initial.agreeing) × (agrees l.whole_lag l.lag ≡ some (fold_fits l.whole_lag l.lag) (drop l.fold-index folds))

abbrev pub invariant-windows : goal.invariant-windows
invariant-windows l =
    (l.agreeing ≤ l.i)
    × (l.agreeing ≡ agreeing_to l.envelope l.rate l.min_lag l.max_lag l.whole_lag l.windows l.i)
    × Open (lag_room l.min_lag l.max_lag) l.initial.clarity l.clarity
    × Open (lag_room l.min_lag l.max_lag) l.initial.weight l.weight
