-- `patch_features::bounds_fine` meets its contract: each return rewrites the chain of tests with those that led to it. Assumes nothing.
use borrow.Author.Tests.{le-leb, lt-leb}
use Rattle.patch_features.specs.Features.{feature_patch_bounds}
use Rattle.patch_features.proofs.bounds_fine.Goals as goal

pub returns-then-rows-le-MOST_FEATURES : goal.returns-then-rows-le-MOST_FEATURES
unfolding feature_patch_bounds
returns-then-rows-le-MOST_FEATURES c = simp (le-leb _ _ c.if-rows-le-MOST_FEATURES.true)

pub returns-else-rows-le-MOST_FEATURES : goal.returns-else-rows-le-MOST_FEATURES
unfolding feature_patch_bounds
returns-else-rows-le-MOST_FEATURES c = simp (lt-leb _ _ c.if-rows-le-MOST_FEATURES.false)
