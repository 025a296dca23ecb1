-- `floats::exps::exp_sized` meets its contract, by the branches on the high word. Assumes nothing.
use Rattle.std.proofs.Common.{le-ltb, lt-ltb, le-leb}
use borrow.Author.Tests.{lt-leb}
use Rattle.floats.specs.Exps.{exp_sized}
use Rattle.floats.proofs.exps.exp_sized.Goals as goal

pub returns-then-h-ge1072734898 : goal.returns-then-h-ge1072734898
unfolding exp_sized
returns-then-h-ge1072734898 c = rw (le-leb _ _ c.if-h-ge1072734898.true, ← c.folds_of.ensures) c.exp_by.ensures

pub returns-then-h-gt1071001154 : goal.returns-then-h-gt1071001154
unfolding exp_sized
returns-then-h-gt1071001154 c = rw (lt-leb _ _ c.if-h-ge1072734898.false, lt-ltb _ _ c.if-h-gt1071001154.true) c.exp_by-then-h-gt1071001154.ensures

pub returns-then-h-gt1043333120 : goal.returns-then-h-gt1043333120
unfolding exp_sized
returns-then-h-gt1043333120 c = rw (lt-leb _ _ c.if-h-ge1072734898.false, le-ltb _ _ c.if-h-gt1071001154.false, lt-ltb _ _ c.if-h-gt1043333120.true)
    c.exp_near.ensures

pub returns : goal.returns
unfolding exp_sized
returns c = rw (lt-leb _ _ c.if-h-ge1072734898.false, le-ltb _ _ c.if-h-gt1071001154.false, le-ltb _ _ c.if-h-gt1043333120.false)
