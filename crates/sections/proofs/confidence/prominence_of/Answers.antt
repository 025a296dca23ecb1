-- `sections::confidence::prominence_of` meets its contract: the positive part of the difference. Assumes nothing.
use Rattle.std.proofs.Common.{sym}
use Rattle.numbers.proofs.Tests.{pick_true, pick-false}
use Rattle.numbers.specs.Rounded.{positive_part}
use Rattle.sections.specs.Confidence.{prominence}
use Rattle.sections.proofs.confidence.prominence_of.Goals as goal

pub returns-then-over : goal.returns-then-over
unfolding prominence positive_part
returns-then-over c = sym (pick_true _ _ _ c.if-over.true)

pub returns-else-over : goal.returns-else-over
unfolding prominence positive_part
returns-else-over c = sym (pick-false _ _ _ c.if-over.false)
