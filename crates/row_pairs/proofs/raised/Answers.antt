-- `row_pairs::raised` meets its contract, by its test. Assumes nothing.
use mathlib.Core.Path.{sym}
use Rattle.numbers.proofs.Tests.{pick_true, pick-false}
use Rattle.row_pairs.proofs.raised.Goals as goal

pub returns-then-x : goal.returns-then-x
returns-then-x c = sym (pick_true _ _ _ c.if-x.true)

pub returns-else-x : goal.returns-else-x
returns-else-x c = sym (pick-false _ _ _ c.if-x.false)
