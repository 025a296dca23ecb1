-- `lag_sums::energy_of` meets its contract: it is the sum at lag 0. Assumes nothing.
use Rattle.lag_sums.specs.Sums.{energy_of}
use Rattle.lag_sums.proofs.energy_of.Goals as goal

pub returns : goal.returns
unfolding energy_of
returns c = c.lag_sum.ensures
