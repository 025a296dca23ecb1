-- `sections::confidence::greater` meets its contract. Assumes nothing.
use Rattle.std.proofs.Common.{sym}
use Rattle.numbers.proofs.Tests.{pick_true, pick-false}
use Rattle.sections.proofs.confidence.greater.Goals as goal

pub returns-then-top-x : goal.returns-then-top-x
returns-then-top-x c = sym (pick_true _ _ _ c.if-top-x.true)

pub returns-else-top-x : goal.returns-else-top-x
returns-else-top-x c = sym (pick-false _ _ _ c.if-top-x.false)
