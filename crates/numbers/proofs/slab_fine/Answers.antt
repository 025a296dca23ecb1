-- `numbers::slab_fine` meets its contract, by the tests that led to each return. Assumes nothing.
use borrow.Author.Tests.{le-leb, lt-leb}
use Rattle.numbers.specs.Limits.{slab_fine}
use Rattle.numbers.proofs.slab_fine.Goals as goal

pub returns-then-bins-ge1 : goal.returns-then-bins-ge1
unfolding slab_fine
returns-then-bins-ge1 c = simp (le-leb _ _ c.if-rows-le-MOST_ROWS.true, le-leb _ _ c.if-bins-ge1.true)

pub returns-else-bins-ge1 : goal.returns-else-bins-ge1
unfolding slab_fine
returns-else-bins-ge1 c = simp (le-leb _ _ c.if-rows-le-MOST_ROWS.true, lt-leb _ _ c.if-bins-ge1.false)

pub returns-else-rows-le-MOST_ROWS : goal.returns-else-rows-le-MOST_ROWS
unfolding slab_fine
returns-else-rows-le-MOST_ROWS c = simp (lt-leb _ _ c.if-rows-le-MOST_ROWS.false)
