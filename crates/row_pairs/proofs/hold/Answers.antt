-- `row_pairs::hold` meets its contract: the lower bound first, then the upper. Assumes nothing.
use mathlib.Core.Path.{sym}
use Rattle.numbers.specs.Rounded.{held}
use Rattle.numbers.proofs.Tests.{pick_true, pick-false}
use Rattle.row_pairs.proofs.hold.Goals as goal

pub returns-then-low : goal.returns-then-low
unfolding held
returns-then-low c = rw (← c.raised-low.ensures) (sym (pick_true _ _ _ c.if-low.true))

pub returns-else-low : goal.returns-else-low
unfolding held
returns-else-low c = rw (← c.raised-low.ensures) (sym (pick-false _ _ _ c.if-low.false))
