-- `floats::logs::upper_half` meets its contract: the code is the definition. Assumes nothing.
use Rattle.floats.specs.Logs.{upper_half}
use Rattle.floats.proofs.logs.upper_half.Goals as goal

pub returns : goal.returns
unfolding upper_half
returns c = rw (← c.bits_of-b.ensures) c.float_of.ensures
