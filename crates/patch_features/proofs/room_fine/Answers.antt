-- `patch_features::room_fine` meets its contract: each return rewrites the chain of tests with those that led to it. Assumes nothing.
use borrow.Author.Tests.{le-leb, lt-leb}
use Rattle.patch_features.specs.Features.{feature_patch_room}
use Rattle.patch_features.proofs.room_fine.Goals as goal

pub returns-then-rows-similarity : goal.returns-then-rows-similarity
unfolding feature_patch_room
returns-then-rows-similarity c = simp (le-leb _ _ c.if-rows-similarity.true)

pub returns-else-rows-similarity : goal.returns-else-rows-similarity
unfolding feature_patch_room
returns-else-rows-similarity c = simp (lt-leb _ _ c.if-rows-similarity.false)
