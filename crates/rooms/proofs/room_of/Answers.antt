-- `rooms::room_of` meets its contract: outside the bounds no room is named, and inside them the lags are those of the options. Assumes nothing.
use mathlib.Core.Path.{sym, ◌∙◌}
use borrow.Author.Tests.{not-true, not-false}
use Rattle.tempo.proofs.Refusals.{ranged, room_is}
use Rattle.rooms.proofs.Numbers.{too_long, by_bounds, room_outside, named_room}
use borrow.Author.Rules.{rules}
use mathlib.Core.Path.{ap}
use mathlib.Core.Bool.{not}
use Rattle.rooms.proofs.room_of.Goals as goal

pub returns-then-rows-gt-MOST_ROWS : goal.returns-then-rows-gt-MOST_ROWS
returns-then-rows-gt-MOST_ROWS c = sym (room_outside _ _ _ (too_long _ _ _ c.if-rows-gt-MOST_ROWS.true))

pub returns-then-not-bounds_fine : goal.returns-then-not-bounds_fine
returns-then-not-bounds_fine c = sym (room_outside _ _ _
    (by_bounds _ _ _ c.if-rows-gt-MOST_ROWS.false ∙ sym c.bounds_fine.ensures ∙ not-true _ (ap not c.if-not-bounds_fine.true)))

pub lags_in-range-requires : goal.lags_in-range-requires
lags_in-range-requires c = sym c.bounds_fine.ensures ∙ not-false _ (ap not c.if-not-bounds_fine.false)

pub lag_slots-slots-requires : goal.lag_slots-slots-requires
lag_slots-slots-requires c =
    let r = ranged _ _ _ c.lags_in-range.ensures (sym c.bounds_fine.ensures ∙ not-false _ (ap not c.if-not-bounds_fine.false)) in
    search rules

pub returns : goal.returns
returns c =
    let fine = sym c.bounds_fine.ensures ∙ not-false _ (ap not c.if-not-bounds_fine.false) in
    let r = ranged _ _ _ c.lags_in-range.ensures fine in
    named_room _ _ _ _ _ _ c.if-rows-gt-MOST_ROWS.false fine (room_is _ _ _ _ r c.lag_slots-slots.ensures)
    c.min.ensures c.max.ensures
