-- `median::middle` meets its contract: the entry of the middle rank is the median. Assumes nothing.
use Rattle.median.specs.Median.{median_of}
use Rattle.median.proofs.middle.Goals as goal

pub returns : goal.returns
unfolding median_of
returns c = c.select.ensures
