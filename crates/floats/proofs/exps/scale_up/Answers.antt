-- `floats::exps::scale_up` meets its contract, by the branches on n. Assumes nothing.
use Rattle.std.proofs.Common.{le-ltb, lt-ltb}
use Rattle.floats.specs.Exps.{scale_up}
use Rattle.floats.proofs.exps.scale_up.Goals as goal

pub returns-then-n-gt1023-2 : goal.returns-then-n-gt1023-2
unfolding scale_up
returns-then-n-gt1023-2 c = rw (lt-ltb _ _ c.if-n-gt1023.true, lt-ltb _ _ c.if-n-gt1023-2.true) c.times_up.ensures

pub returns-then-n-gt1023 : goal.returns-then-n-gt1023
unfolding scale_up
returns-then-n-gt1023 c = rw (lt-ltb _ _ c.if-n-gt1023.true, le-ltb _ _ c.if-n-gt1023-2.false) c.times_up-then-n-gt1023.ensures

pub returns : goal.returns
unfolding scale_up
returns c = rw (le-ltb _ _ c.if-n-gt1023.false) c.times_up-2.ensures
