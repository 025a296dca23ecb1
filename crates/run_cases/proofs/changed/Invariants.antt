-- `run_cases::changed` meets its contract. The invariant: the slots found to differ and those among the slots that are left are all that
-- differ. Assumes nothing.
use mathlib.Core.Path.{◌≡◌}
use Prim.Native.Nat.{◌≤◌, ◌+◌}
use lib.ListN.{drop}
use Rattle.run_cases.specs.Curves.{differing}
use Rattle.run_cases.proofs.changed.Given as goal

abbrev pub invariant-loop-i : goal.invariant-loop-i
invariant-loop-i l = (l.n ≤ l.i) × (l.n + differing l.first l.past l.i (drop l.i l.old) (drop l.i l.new) ≡ differing l.first l.past 0 l.old l.new)
