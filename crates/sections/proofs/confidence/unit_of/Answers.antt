-- `sections::confidence::unit_of` meets its contract: below 0, above 1 and between. Assumes nothing.
use Rattle.std.proofs.Common.{sym}
use Rattle.numbers.specs.Rounded.{nought, one}
use Rattle.sizes.proofs.Ranges.{held_below, held-above, held-inside}
use Rattle.sections.proofs.Confidences.{zero_one}
use Rattle.sections.proofs.confidence.unit_of.Goals as goal

pub returns-then-x : goal.returns-then-x
returns-then-x c = sym (held_below nought one _ zero_one c.if-x.true)

pub returns-then-x-2 : goal.returns-then-x-2
returns-then-x-2 c = sym (held-above nought one _ c.if-x.false c.if-x-2.true)

pub returns-else-x-2 : goal.returns-else-x-2
returns-else-x-2 c = sym (held-inside nought one _ c.if-x.false c.if-x-2.false)
