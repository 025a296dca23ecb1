-- `patch_magnitudes::refusal::room_fine` meets its contract: each return rewrites the chain of tests with those that led to it. Assumes nothing.
use borrow.Author.Tests.{le-leb, lt-leb}
use Rattle.patch_magnitudes.specs.Tracks.{patch_room}
use Rattle.patch_magnitudes.proofs.refusal.room_fine.Goals as goal

pub returns-then-rows-threshold : goal.returns-then-rows-threshold
unfolding patch_room
returns-then-rows-threshold c = simp (le-leb _ _ c.if-rows-flux.true, le-leb _ _ c.if-rows-threshold.true, c.min.ensures)

pub returns-else-rows-threshold : goal.returns-else-rows-threshold
unfolding patch_room
returns-else-rows-threshold c = simp (le-leb _ _ c.if-rows-flux.true, lt-leb _ _ c.if-rows-threshold.false)

pub returns-else-rows-flux : goal.returns-else-rows-flux
unfolding patch_room
returns-else-rows-flux c = simp (lt-leb _ _ c.if-rows-flux.false)
