-- `numbers::run_passes` meets its contract. The invariant: whatever test the calls make, that of the whole list is that of what is left
-- and what was found so far. Assumes nothing.
use mathlib.Core.Path.{◌≡◌}
use mathlib.Core.Bool.{◌&&◌}
use lib.ListN.{drop}
use Rattle.numbers.specs.Lists.{every, IsTest}
use Rattle.numbers.proofs.run_passes.Given as goal

abbrev pub invariant-loop-x : goal.invariant-loop-x
invariant-loop-x g l = (p : _) → IsTest (goal.F-post g l.test) p → every p l.s ≡ (every p (drop l.x-index l.s) && l.fine)
