-- `report_head::behind_first` meets its contract, by what the ten bytes say. Assumes nothing.
use mathlib.Core.Path.{sym}
use borrow.Author.Tests.{eq-eqb, ne_eqb}
use Rattle.numbers.proofs.Tests.{pick_true, pick-false}
use Rattle.report_head.specs.Heads.{behind_first}
use Rattle.report_head.proofs.behind_first.Goals as goal

pub returns-then-size-eq0 : goal.returns-then-size-eq0
unfolding behind_first
returns-then-size-eq0 c = rw c.in-Some.is (sym (pick_true _ _ _ (eq-eqb _ _ c.if-size-eq0.true)))

pub returns-in-None : goal.returns-in-None
unfolding behind_first
returns-in-None c = rw c.in-None.is

pub returns-else-size-eq0 : goal.returns-else-size-eq0
unfolding behind_first
returns-else-size-eq0 c = rw c.in-Some.is (sym (pick-false _ _ _ (ne_eqb _ _ c.if-size-eq0.false)))
