-- `midi_gaps::gap_at` meets its contract: it is the gap between two entries of the list. Assumes nothing.
use Rattle.midi_gaps.specs.Gaps.{gap_at}
use Rattle.midi_gaps.proofs.gap_at.Goals as goal

pub returns : goal.returns
unfolding gap_at
returns c = c.gap_between.ensures
