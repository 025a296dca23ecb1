-- `numbers::rate_fine` meets its contract: `&&` answers its right side where its left holds. Assumes nothing.
use borrow.Author.Tests.{le-leb, lt-leb}
use Rattle.numbers.proofs.Tests.{and-held, and_failed}
use Rattle.numbers.proofs.rate_fine.Goals as goal

pub returns-then-rate-ge1 : goal.returns-then-rate-ge1
returns-then-rate-ge1 c = and-held _ _ (le-leb _ _ c.if-rate-ge1.true)

pub returns-else-rate-ge1 : goal.returns-else-rate-ge1
returns-else-rate-ge1 c = and_failed _ _ (lt-leb _ _ c.if-rate-ge1.false)
