-- `patch_features::is_replaced` meets its contract: each return rewrites the chain of tests with those that led to it. Assumes nothing.
use borrow.Author.Tests.{le-leb, lt-leb}
use Rattle.patch_features.specs.Features.{replaced}
use Rattle.patch_features.proofs.is_replaced.Goals as goal

pub returns-then-start-i : goal.returns-then-start-i
unfolding replaced
returns-then-start-i c = simp (le-leb _ _ c.if-start-i.true)

pub returns-else-start-i : goal.returns-else-start-i
unfolding replaced
returns-else-start-i c = simp (lt-leb _ _ c.if-start-i.false)
