-- `floats::exps::scale_down` meets its contract, by the branches on n. Assumes nothing.
use Rattle.std.proofs.Common.{le-ltb, lt-ltb}
use Rattle.floats.specs.Exps.{scale_down}
use Rattle.floats.proofs.exps.scale_down.Goals as goal

pub returns-then-n-gt1022-2 : goal.returns-then-n-gt1022-2
unfolding scale_down
returns-then-n-gt1022-2 c = rw (lt-ltb _ _ c.if-n-gt1022.true, lt-ltb _ _ c.if-n-gt1022-2.true) c.times_down.ensures

pub returns-then-n-gt1022 : goal.returns-then-n-gt1022
unfolding scale_down
returns-then-n-gt1022 c = rw (lt-ltb _ _ c.if-n-gt1022.true, le-ltb _ _ c.if-n-gt1022-2.false) c.times_down-then-n-gt1022.ensures

pub returns : goal.returns
unfolding scale_down
returns c = rw (le-ltb _ _ c.if-n-gt1022.false) c.times_down-2.ensures
