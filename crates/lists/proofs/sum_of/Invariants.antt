-- `lists::sum_of` meets its contract. The invariant: the sum so far, and then what is left, is the whole sum. Assumes nothing.
use Rattle.std.proofs.Common.{◌≡◌, drop}
use Rattle.numbers.specs.Rounded.{nought, sum_from}
use Rattle.lists.proofs.sum_of.Given as goal

abbrev pub invariant-loop-x : goal.invariant-loop-x
invariant-loop-x l = sum_from l.sum (drop l.x-index l.xs) ≡ sum_from nought l.xs
