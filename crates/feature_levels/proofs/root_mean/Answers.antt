-- `feature_levels::root_mean` meets its contract: the root of a quotient. Assumes nothing.
use Rattle.feature_levels.proofs.root_mean.Goals as goal

pub returns : goal.returns
returns c = rw (c.sqrt.ensures, c.float_of.ensures)
