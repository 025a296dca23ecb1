-- `midi_gaps::is_grid` meets its contract: there are two beats or more, and then they ascend or not. Assumes nothing.
use borrow.Author.Tests.{le-leb, lt-leb}
use Rattle.midi_gaps.specs.Gaps.{is_grid}
use Rattle.midi_gaps.proofs.is_grid.Goals as goal

pub returns-then-beats-lt2 : goal.returns-then-beats-lt2
unfolding is_grid
returns-then-beats-lt2 c = simp (lt-leb _ _ c.if-beats-lt2.true)

pub returns : goal.returns
unfolding is_grid
returns c = simp (le-leb _ _ c.if-beats-lt2.false, c.ascends.ensures)
