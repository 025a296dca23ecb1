-- `report::shape_fine` meets its contract, test by test. Assumes nothing.
use borrow.Author.Tests.{le-leb, lt-leb}
use Rattle.report.proofs.shape_fine.Goals as goal

pub returns-then-bins-ge1 : goal.returns-then-bins-ge1
returns-then-bins-ge1 c = rw (le-leb _ _ c.if-rows.true, le-leb _ _ c.if-bins-ge1.true)

pub returns-else-bins-ge1 : goal.returns-else-bins-ge1
returns-else-bins-ge1 c = rw (le-leb _ _ c.if-rows.true, lt-leb _ _ c.if-bins-ge1.false)

pub returns-else-rows : goal.returns-else-rows
returns-else-rows c = rw (lt-leb _ _ c.if-rows.false)
