-- `roots::root_by_digits` meets its contract. The invariant is the schoolbook's: the square of the root so far, with the rest, is a's leading digits
-- (`Digits`). Assumes nothing.
use Rattle.roots.proofs.Whole.{Digits}
use Rattle.roots.proofs.root_by_digits.Given as goal

abbrev pub invariant-loop-i : goal.invariant-loop-i
invariant-loop-i l = Digits l.a l.rest l.root l.left l.i
