-- `lag_curves::fill_priors` meets its contract. The invariant: the slots below i are written by the rule. Assumes nothing.
use mathlib.Core.Path.{◌≡◌}
use Prim.Native.Nat.{◌≤◌}
use lib.ListN.{length}
use Rattle.numbers.specs.Lists.{filled}
use Rattle.lags.specs.Lags.{lag_room}
use Rattle.lag_curves.specs.Curves.{prior_from}
use Rattle.lag_curves.proofs.fill_priors.Given as goal

abbrev pub invariant-loop-i : goal.invariant-loop-i
invariant-loop-i l =
    (l.i ≤ lag_room l.min_lag l.max_lag) × (length l.priors ≡ length l.initial.priors) × (l.priors ≡ filled (prior_from l.rate l.min_lag) l.initial.priors 0 l.i)
