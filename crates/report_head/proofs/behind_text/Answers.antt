-- `report_head::behind_text` meets its contract, by what the text says. Assumes nothing.
use mathlib.Core.Path.{sym, ◌∙◌}
use borrow.Author.Tests.{not-true, not-false}
use Rattle.numbers.proofs.Tests.{pick_true, pick-false}
use Rattle.report_head.specs.Heads.{behind_text}
use mathlib.Core.Path.{ap}
use mathlib.Core.Bool.{not}
use Rattle.report_head.proofs.behind_text.Goals as goal

pub returns-then-not-shape_fine : goal.returns-then-not-shape_fine
unfolding behind_text
returns-then-not-shape_fine c = rw c.in-Some.is
    (sym (pick-false _ _ _ (sym c.shape_fine.ensures ∙ not-true c.shape_fine.result (ap not c.if-not-shape_fine.true))))

pub returns-in-None : goal.returns-in-None
unfolding behind_text
returns-in-None c = rw c.in-None.is

pub returns-else-not-shape_fine : goal.returns-else-not-shape_fine
unfolding behind_text
returns-else-not-shape_fine c = rw c.in-Some.is
    (sym (pick_true _ _ _ (sym c.shape_fine.ensures ∙ not-false c.shape_fine.result (ap not c.if-not-shape_fine.false))))
