-- `lists::read_frame` meets its contract: the one test decides. Assumes nothing.
use Rattle.std.proofs.Common.{le-ltb, lt-ltb}
use Rattle.lists.proofs.read_frame.Goals as goal

pub returns-then-t-j : goal.returns-then-t-j
returns-then-t-j c = rw (lt-ltb _ _ c.if-t-j.true)

pub returns : goal.returns
returns c = rw (le-ltb _ _ c.if-t-j.false)
