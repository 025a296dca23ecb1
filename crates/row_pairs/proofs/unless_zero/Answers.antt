-- `row_pairs::unless_zero` meets its contract, by its test. Assumes nothing.
use mathlib.Core.Path.{sym}
use Rattle.numbers.proofs.Tests.{pick_true, pick-false}
use Rattle.row_pairs.specs.Pairs.{is_zero}
use Rattle.row_pairs.proofs.unless_zero.Goals as goal

pub returns-then-norm : goal.returns-then-norm
unfolding is_zero
returns-then-norm c = sym (pick_true _ _ _ c.if-norm.true)

pub returns-else-norm : goal.returns-else-norm
unfolding is_zero
returns-else-norm c = sym (pick-false _ _ _ c.if-norm.false)
