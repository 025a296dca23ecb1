-- `options::options_fine` meets its contract: both ends of the meter's range are tested. Assumes nothing.
use borrow.Author.Tests.{le-leb, lt-leb}
use Rattle.options.specs.Options.{options_fine}
use Rattle.options.proofs.options_fine.Goals as goal

pub returns-then-opts-ge1 : goal.returns-then-opts-ge1
unfolding options_fine
returns-then-opts-ge1 c = simp (le-leb _ _ c.if-opts-ge1.true)

pub returns-else-opts-ge1 : goal.returns-else-opts-ge1
unfolding options_fine
returns-else-opts-ge1 c = simp (lt-leb _ _ c.if-opts-ge1.false)
