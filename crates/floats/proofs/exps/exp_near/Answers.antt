-- `floats::exps::exp_near` meets its contract: the code is the definition. Assumes nothing.
use Rattle.std.proofs.Common.{refl}
use Rattle.floats.specs.Exps.{exp_near}
use Rattle.floats.proofs.exps.exp_near.Goals as goal

pub returns : goal.returns
unfolding exp_near
returns c = refl
