-- `section_peaks::better_of` meets its contract. Assumes nothing.
use mathlib.Core.Path.{sym}
use Rattle.numbers.proofs.Tests.{pick_true, pick-false}
use Rattle.section_peaks.proofs.better_of.Goals as goal

pub returns-then-curve-best : goal.returns-then-curve-best
returns-then-curve-best c = sym (pick_true _ _ _ c.if-curve-best.true)

pub returns-else-curve-best : goal.returns-else-curve-best
returns-else-curve-best c = sym (pick-false _ _ _ c.if-curve-best.false)
