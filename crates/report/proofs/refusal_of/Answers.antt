-- `report::refusal_of` meets its contract, test by test. Assumes nothing.
use mathlib.Core.Path.{sym, refl}
use mathlib.Core.Bool.{true}
use borrow.Author.Tests.{not-true, not-false}
use Rattle.numbers.proofs.Tests.{lowest_0, lowest_1, lowest_2, lowest_4}
use mathlib.Core.Path.{ap}
use mathlib.Core.Bool.{not}
use Rattle.report.proofs.refusal_of.Goals as goal

pub returns-then-not-shape : goal.returns-then-not-shape
returns-then-not-shape c = let a = c.args in sym (lowest_1 a.shape a.whole true a.fine (not-true a.shape (ap not c.if-not-shape.true)))

pub returns-then-not-whole : goal.returns-then-not-whole
returns-then-not-whole c =
    let a = c.args in
    sym (lowest_2 a.shape a.whole true a.fine (not-false a.shape (ap not c.if-not-shape.false)) (not-true a.whole (ap not c.if-not-whole.true)))

pub returns-then-not-fine : goal.returns-then-not-fine
returns-then-not-fine c =
    let a = c.args in
    sym
    (lowest_4 a.shape a.whole true a.fine (not-false a.shape (ap not c.if-not-shape.false)) (not-false a.whole (ap not c.if-not-whole.false)) refl
    (not-true a.fine (ap not c.if-not-fine.true)))

pub returns : goal.returns
returns c =
    let a = c.args in
    sym
    (lowest_0 a.shape a.whole true a.fine (not-false a.shape (ap not c.if-not-shape.false)) (not-false a.whole (ap not c.if-not-whole.false)) refl
    (not-false a.fine (ap not c.if-not-fine.false)))
