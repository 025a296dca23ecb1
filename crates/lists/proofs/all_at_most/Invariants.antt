-- `lists::all_at_most` meets its contract. The invariant: the test of the whole list is the test of what is left. Assumes nothing.
use Rattle.std.proofs.Common.{◌≡◌, drop}
use Rattle.numbers.specs.Lists.{every}
use Rattle.numbers.specs.Limits.{at_most}
use Rattle.lists.proofs.all_at_most.Given as goal

abbrev pub invariant-loop-x : goal.invariant-loop-x
invariant-loop-x l = every (at_most l.most) l.list ≡ every (at_most l.most) (drop l.x-index l.list)
