-- `rooms::magnitudes_refusal` meets its contract, row by row of the table. Assumes nothing.
use mathlib.Core.Path.{refl, sym, ◌∙◌}
use borrow.Author.Tests.{not-true, not-false}
use Rattle.std.specs.Prelude.{Err}
use Rattle.numbers.proofs.Outcomes.{handed_on, number-not_0}
use Rattle.rooms.specs.Rooms.{room_said}
use Rattle.rooms.proofs.Numbers.{shapeless, magnitudes_0, magnitudes_1, magnitudes_2, flux_short, magnitudes_3, magnitudes_4}
use mathlib.Core.Path.{ap}
use mathlib.Core.Bool.{not}
use Rattle.rooms.proofs.magnitudes_refusal.Goals as goal

pub returns-then-not-slab_fine : goal.returns-then-not-slab_fine
returns-then-not-slab_fine c = shapeless _ _ _ _ _ _ _ _ (sym c.slab_fine.ensures ∙ not-true _ (ap not c.if-not-slab_fine.true))

pub returns-in_err-room : goal.returns-in_err-room
returns-in_err-room c =
    handed_on _ _ c.from_residual.ensures.1
    ∙ magnitudes_1 _ _ _ _ _ _ _ _ (sym c.slab_fine.ensures ∙ not-false _ (ap not c.if-not-slab_fine.false)) (room_said (Err c.in_err-room.field-0.0))
    c.in_err-room.ensures (number-not_0 c.in_err-room.field-0.0)

pub slab_whole-requires : goal.slab_whole-requires
slab_whole-requires c =
    sym c.slab_fine.ensures ∙ not-false _ (ap not c.if-not-slab_fine.false)

pub returns-then-not-slab_whole : goal.returns-then-not-slab_whole
returns-then-not-slab_whole c =
    magnitudes_2 _ _ _ _ _ _ _ _ (sym c.slab_fine.ensures ∙ not-false _ (ap not c.if-not-slab_fine.false)) _ c.in_ok-room.ensures refl
    (sym c.slab_whole.ensures ∙ not-true _ (ap not c.if-not-slab_whole.true))

pub returns-then-flux-rows : goal.returns-then-flux-rows
returns-then-flux-rows c =
    flux_short _ _ _ _ _ _ _ _ (sym c.slab_fine.ensures ∙ not-false _ (ap not c.if-not-slab_fine.false)) _ c.in_ok-room.ensures refl
    (sym c.slab_whole.ensures ∙ not-false _ (ap not c.if-not-slab_whole.false)) c.if-flux-rows.true

pub returns-then-not-has_room : goal.returns-then-not-has_room
returns-then-not-has_room c =
    magnitudes_3 _ _ _ _ _ _ _ _ (sym c.slab_fine.ensures ∙ not-false _ (ap not c.if-not-slab_fine.false)) _ c.in_ok-room.ensures refl
    (sym c.slab_whole.ensures ∙ not-false _ (ap not c.if-not-slab_whole.false))
    c.if-flux-rows.false _ c.has_room.ensures (not-true _ (ap not c.if-not-has_room.true))

pub returns-then-not-magnitudes_fine : goal.returns-then-not-magnitudes_fine
returns-then-not-magnitudes_fine c =
    magnitudes_4 _ _ _ _ _ _ _ _ (sym c.slab_fine.ensures ∙ not-false _ (ap not c.if-not-slab_fine.false)) _ c.in_ok-room.ensures refl
    (sym c.slab_whole.ensures ∙ not-false _ (ap not c.if-not-slab_whole.false))
    c.if-flux-rows.false _ c.has_room.ensures (not-false _ (ap not c.if-not-has_room.false)) (sym c.magnitudes_fine.ensures ∙ not-true _ (ap not c.if-not-magnitudes_fine.true))

pub returns : goal.returns
returns c =
    magnitudes_0 _ _ _ _ _ _ _ _ (sym c.slab_fine.ensures ∙ not-false _ (ap not c.if-not-slab_fine.false)) _ c.in_ok-room.ensures refl
    (sym c.slab_whole.ensures ∙ not-false _ (ap not c.if-not-slab_whole.false))
    c.if-flux-rows.false _ c.has_room.ensures (not-false _ (ap not c.if-not-has_room.false)) (sym c.magnitudes_fine.ensures ∙ not-false _ (ap not c.if-not-magnitudes_fine.false))
