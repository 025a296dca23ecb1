-- `numbers::size_fine` meets its contract: `&&` answers its right side where its left holds. Assumes nothing.
use Rattle.numbers.proofs.Tests.{and-held, and_failed}
use Rattle.numbers.proofs.size_fine.Goals as goal

pub returns-then-x-top : goal.returns-then-x-top
returns-then-x-top c = and-held _ _ c.if-x-top.true

pub returns-else-x-top : goal.returns-else-x-top
returns-else-x-top c = and_failed _ _ c.if-x-top.false
