-- `lists::ascends` meets its contract. The invariant: whether the whole list ascends is whether what is left ascends from `low` on. Assumes nothing.
use Rattle.std.proofs.Common.{◌≡◌, ◌≤◌, drop}
use Rattle.numbers.specs.Lists.{ascending}
use Rattle.lists.proofs.ascends.Given as goal

abbrev pub invariant-loop-x : goal.invariant-loop-x
invariant-loop-x l = (l.low ≤ 4294967296) × (ascending 0 l.list ≡ ascending l.low (drop l.x-index l.list))
