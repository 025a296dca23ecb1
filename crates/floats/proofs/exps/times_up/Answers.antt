-- `floats::exps::times_up` meets its contract, by the branch on n. Assumes nothing.
use Rattle.std.proofs.Common.{le-ltb, lt-ltb}
use Rattle.floats.specs.Exps.{times_up}
use Rattle.floats.proofs.exps.times_up.Goals as goal

pub returns-then-n-gt1023 : goal.returns-then-n-gt1023
unfolding times_up
returns-then-n-gt1023 c = rw (lt-ltb _ _ c.if-n-gt1023.true, c.float_of.ensures)

pub returns : goal.returns
unfolding times_up
returns c = rw (le-ltb _ _ c.if-n-gt1023.false, c.float_of-2.ensures)
