-- `lag_sums::abreast::centre` meets its contract. The invariant: the slots below i are written by the rule. Assumes nothing.
use mathlib.Core.Path.{◌≡◌}
use Prim.Native.Nat.{◌≤◌}
use lib.ListN.{length}
use Rattle.numbers.specs.Lists.{filled}
use Rattle.lag_sums.specs.Lanes.{centred_from}
use Rattle.lag_sums.proofs.abreast.centre.Given as goal

abbrev pub invariant-loop-i : goal.invariant-loop-i
invariant-loop-i l =
    (l.i ≤ length l.initial.out) × (length l.out ≡ length l.initial.out) × (l.out ≡ filled (centred_from l.envelope l.mean l.from) l.initial.out 0 l.i)
