-- `floats::exps::times_down` meets its contract, by the branch on n. Assumes nothing.
use Rattle.std.proofs.Common.{le-ltb, lt-ltb}
use Rattle.floats.specs.Exps.{times_down}
use Rattle.floats.proofs.exps.times_down.Goals as goal

pub returns-then-n-gt1022 : goal.returns-then-n-gt1022
unfolding times_down
returns-then-n-gt1022 c = rw (lt-ltb _ _ c.if-n-gt1022.true, c.float_of.ensures)

pub returns : goal.returns
unfolding times_down
returns c = rw (le-ltb _ _ c.if-n-gt1022.false, c.float_of-2.ensures)
