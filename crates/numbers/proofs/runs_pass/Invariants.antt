-- `numbers::runs_pass` meets its contract. The invariant: whatever test the calls make, that of the four runs is that of what is left of
-- each and what was found so far. Assumes nothing.
use mathlib.Core.Path.{◌≡◌}
use mathlib.Core.Bool.{true}
use Rattle.numbers.specs.Lists.{IsTest}
use Rattle.numbers.proofs.Everys.{every_4}
use Rattle.numbers.proofs.runs_pass.Given as goal

abbrev pub invariant-loop-i : goal.invariant-loop-i
invariant-loop-i g l = (p : _) → IsTest (goal.F-post g l.test) p → every_4 p l.a l.b l.c l.d 0 true ≡ every_4 p l.a l.b l.c l.d l.i l.fine
