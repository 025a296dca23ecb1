-- `run_cases::find` meets its contract. The invariant: the first mark behind the place is the first from where the search is. Assumes nothing.
use mathlib.Core.Path.{◌≡◌}
use Prim.Native.Nat.{◌+◌}
use lib.ListN.{drop}
use Rattle.run_cases.specs.Texts.{index_of}
use Rattle.run_cases.proofs.find.Given as goal

abbrev pub invariant-loop-i : goal.invariant-loop-i
invariant-loop-i l = l.i + index_of l.mark (drop l.i l.text) ≡ l.from + index_of l.mark (drop l.from l.text)
