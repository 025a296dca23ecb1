-- `lags::pairs::lags_apart` meets its contract: each step is the definition's. Assumes nothing.
use Rattle.lags.specs.Pairs.{apart}
use Rattle.lags.proofs.pairs.lags_apart.Goals as goal

pub returns : goal.returns
unfolding apart
returns c = rw (c.distance_of.ensures, c.float_of-a.ensures, c.float_of-l.ensures)
