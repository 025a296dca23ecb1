-- `rooms::envelope_refusal` meets its contract, row by row of the table. Assumes nothing.
use mathlib.Core.Path.{refl, sym, ◌∙◌}
use borrow.Author.Tests.{not-true, not-false}
use Rattle.std.specs.Prelude.{Err}
use Rattle.numbers.proofs.Outcomes.{handed_on, number-not_0}
use Rattle.rooms.specs.Rooms.{room_said}
use Rattle.rooms.proofs.Numbers.{envelope_0, envelope_1, envelope_3, envelope_4}
use mathlib.Core.Path.{ap}
use mathlib.Core.Bool.{not}
use Rattle.rooms.proofs.envelope_refusal.Goals as goal

pub returns-in_err-room : goal.returns-in_err-room
returns-in_err-room c =
    handed_on _ _ c.from_residual.ensures.1
    ∙ envelope_1 _ _ _ _ _ _ (room_said (Err c.in_err-room.field-0.0)) c.in_err-room.ensures (number-not_0 c.in_err-room.field-0.0)

pub returns-then-not-has_room : goal.returns-then-not-has_room
returns-then-not-has_room c = envelope_3 _ _ _ _ _ _ _ c.in_ok-room.ensures refl _
    c.has_room.ensures (not-true _ (ap not c.if-not-has_room.true))

pub returns-then-not-values_fine : goal.returns-then-not-values_fine
returns-then-not-values_fine c = envelope_4 _ _ _ _ _ _ _ c.in_ok-room.ensures
    refl _ c.has_room.ensures (not-false _ (ap not c.if-not-has_room.false))
    (sym c.values_fine.ensures ∙ not-true _ (ap not c.if-not-values_fine.true))

pub returns : goal.returns
returns c = envelope_0 _ _ _ _ _ _ _ c.in_ok-room.ensures
    refl _ c.has_room.ensures (not-false _ (ap not c.if-not-has_room.false))
    (sym c.values_fine.ensures ∙ not-false _ (ap not c.if-not-values_fine.false))
