-- `lags::pairs::fold_fits` meets its contract: each step is the definition's. Assumes nothing.
use Rattle.lags.specs.Pairs.{fold_fits}
use Rattle.lags.proofs.pairs.fold_fits.Goals as goal

pub returns : goal.returns
unfolding fold_fits
returns c = rw (c.distance_of.ensures, c.float_of-w.ensures, c.float_of-l.ensures)
