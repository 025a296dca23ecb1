-- `lag_curves::fill_eight` meets its contract. The invariant: the slots below from + j are written by the rule. Assumes nothing.
use mathlib.Core.Path.{◌≡◌}
use Prim.Native.Nat.{◌+◌, ◌≤◌}
use lib.ListN.{length}
use Rattle.numbers.specs.Lists.{filled}
use Rattle.lag_curves.specs.Curves.{clarity_from}
use Rattle.lag_curves.proofs.fill_eight.Given as goal

abbrev pub invariant-loop-j : goal.invariant-loop-j
invariant-loop-j l =
    (l.j ≤ 8) × (length l.clarity ≡ length l.initial.clarity) × (l.clarity ≡ filled (clarity_from l.envelope l.mean l.ac0 l.min_lag) l.initial.clarity l.from (l.from + l.j))
