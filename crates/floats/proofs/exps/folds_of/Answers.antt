-- `floats::exps::folds_of` meets its contract, by the branch on the sign. Assumes nothing.
use Rattle.floats.specs.Exps.{folds_of}
use Rattle.floats.proofs.exps.folds_of.Goals as goal

pub returns-then-negative : goal.returns-then-negative
unfolding folds_of
returns-then-negative c = rw c.if-negative.true c.whole_of.ensures

pub returns : goal.returns
unfolding folds_of
returns c = rw c.if-negative.false c.whole_of-2.ensures
