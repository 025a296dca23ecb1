-- `floats::exps::exp_less` meets its contract: the code is the definition. Assumes nothing.
use Rattle.floats.specs.Exps.{exp_less}
use Rattle.floats.proofs.exps.exp_less.Goals as goal

pub returns : goal.returns
unfolding exp_less
returns c = c.exp_near.ensures
