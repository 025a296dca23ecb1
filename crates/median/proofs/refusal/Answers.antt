-- `median::refusal` meets its contract: each test fails one row of the table, and those before it passed. Assumes nothing.
use Rattle.median.proofs.Told.{row_0, row_1, row_3, row_4, row_4_given}
use mathlib.Core.Path.{ap}
use mathlib.Core.Bool.{not}
use Rattle.median.proofs.refusal.Goals as goal

pub returns-then-values-eq0 : goal.returns-then-values-eq0
returns-then-values-eq0 c = row_1 _ _ _ c.if-values-eq0.true

pub returns-then-room-values : goal.returns-then-room-values
returns-then-room-values c = row_3 _ _ _ c.if-values-eq0.false c.if-room-values.true

pub returns-then-not-fine : goal.returns-then-not-fine
returns-then-not-fine c = row_4_given _ _ _ c.if-values-eq0.false c.if-room-values.false (ap not c.if-not-fine.true)

pub returns-then-not-values_fine : goal.returns-then-not-values_fine
returns-then-not-values_fine c =
    row_4 _ _ _ c.if-values-eq0.false c.if-room-values.false (ap not c.if-not-fine.false) _ c.values_fine.ensures (ap not c.if-not-values_fine.true)

pub returns : goal.returns
returns c =
    row_0 _ _ _ c.if-values-eq0.false c.if-room-values.false (ap not c.if-not-fine.false) _ c.values_fine.ensures (ap not c.if-not-values_fine.false)
