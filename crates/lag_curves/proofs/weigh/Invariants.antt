-- `lag_curves::weigh` meets its contract. The invariant: the slots below i are written by the rule. Assumes nothing.
use mathlib.Core.Path.{◌≡◌}
use Prim.Native.Nat.{◌≤◌}
use lib.ListN.{length}
use Rattle.numbers.specs.Lists.{filled}
use Rattle.lag_curves.specs.Curves.{weighted_by}
use Rattle.lag_curves.proofs.weigh.Given as goal

abbrev pub invariant-loop-i : goal.invariant-loop-i
invariant-loop-i l =
    (l.i ≤ l.count) × (length l.weight ≡ length l.initial.weight) × (l.weight ≡ filled (weighted_by l.clarity l.priors) l.initial.weight 0 l.i)
