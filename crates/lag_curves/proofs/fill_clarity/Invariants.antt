-- `lag_curves::fill_clarity` meets its contract. The invariant: the slots below i are written by the rule. The measure is the slots
-- that are left; each call's slots join those before them or begin within them. Assumes nothing.
use mathlib.Core.Path.{◌≡◌}
use Prim.Native.Nat.{◌≤◌, ◌-◌}
use lib.ListN.{length}
use Rattle.numbers.specs.Lists.{filled}
use Rattle.lags.specs.Lags.{lag_room}
use Rattle.lag_curves.specs.Curves.{clarity_from}
use Rattle.lag_curves.proofs.fill_clarity.Given as goal

abbrev pub invariant-loop-i : goal.invariant-loop-i
invariant-loop-i l =
    (l.i ≤ lag_room l.min_lag l.max_lag) × (length l.clarity ≡ length l.initial.clarity) × (l.clarity ≡ filled (clarity_from l.envelope l.mean l.ac0 l.min_lag) l.initial.clarity 0 l.i)

abbrev pub decreases-loop-i : goal.decreases-loop-i
decreases-loop-i l = lag_room l.min_lag l.max_lag - l.i
