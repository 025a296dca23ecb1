-- `lag_curves::fill_singly` meets its contract. The invariant: the slots below i are written by the rule. Assumes nothing.
use mathlib.Core.Path.{◌≡◌}
use Prim.Native.Nat.{◌≤◌}
use lib.ListN.{length}
use Rattle.numbers.specs.Lists.{filled}
use Rattle.lag_curves.specs.Curves.{clarity_from}
use Rattle.lag_curves.proofs.fill_singly.Given as goal

abbrev pub invariant-loop-i : goal.invariant-loop-i
invariant-loop-i l =
    (l.from ≤ l.i) × (l.i ≤ l.past) × (length l.clarity ≡ length l.initial.clarity) × (l.clarity ≡ filled (clarity_from l.envelope l.mean l.ac0 l.min_lag) l.initial.clarity l.from l.i)
