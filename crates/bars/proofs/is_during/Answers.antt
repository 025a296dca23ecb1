-- `bars::is_during` meets its contract: `&&` answers its right side where its left holds. Assumes nothing.
use Rattle.numbers.proofs.Tests.{and-held, and_failed}
use Rattle.bars.proofs.is_during.Goals as goal

pub returns-then-lo-t : goal.returns-then-lo-t
returns-then-lo-t c = and-held _ _ c.if-lo-t.true

pub returns-else-lo-t : goal.returns-else-lo-t
returns-else-lo-t c = and_failed _ _ c.if-lo-t.false
