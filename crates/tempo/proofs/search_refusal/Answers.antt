-- `tempo::search_refusal` meets its contract: each return is one row of the table, where the rows before it pass. Assumes nothing.
use mathlib.Core.Path.{sym, ◌∙◌}
use borrow.Author.Tests.{not-true, not-false}
use Rattle.tempo.proofs.Refusals.{too_long, not_in_bounds, too_little_room_lem, wrong_value_lem, nothing_refused}
use mathlib.Core.Path.{ap}
use mathlib.Core.Bool.{not}
use Rattle.tempo.proofs.search_refusal.Goals as goal

pub returns-then-envelope-gt-MOST_ROWS : goal.returns-then-envelope-gt-MOST_ROWS
returns-then-envelope-gt-MOST_ROWS c = too_long _ _ _ _ _ _ c.if-envelope-gt-MOST_ROWS.true

pub returns-then-not-bounds_fine : goal.returns-then-not-bounds_fine
returns-then-not-bounds_fine c = not_in_bounds _ _ _ _ _ _ c.if-envelope-gt-MOST_ROWS.false (sym c.bounds_fine.ensures ∙ not-true _ (ap not c.if-not-bounds_fine.true))

pub has_room-requires : goal.has_room-requires
has_room-requires c = sym c.bounds_fine.ensures ∙ not-false _ (ap not c.if-not-bounds_fine.false)

pub returns-then-not-has_room : goal.returns-then-not-has_room
returns-then-not-has_room c = too_little_room_lem _ _ _ _ _ _ c.if-envelope-gt-MOST_ROWS.false
    (sym c.bounds_fine.ensures ∙ not-false _ (ap not c.if-not-bounds_fine.false))
    (sym c.has_room.ensures ∙ not-true _ (ap not c.if-not-has_room.true))

pub returns-then-not-values_fine : goal.returns-then-not-values_fine
returns-then-not-values_fine c = wrong_value_lem _ _ _ _ _ _ c.if-envelope-gt-MOST_ROWS.false
    (sym c.bounds_fine.ensures ∙ not-false _ (ap not c.if-not-bounds_fine.false))
    (sym c.has_room.ensures ∙ not-false _ (ap not c.if-not-has_room.false))
    (sym c.values_fine.ensures ∙ not-true _ (ap not c.if-not-values_fine.true))

pub returns : goal.returns
returns c = nothing_refused _ _ _ _ _ _ c.if-envelope-gt-MOST_ROWS.false
    (sym c.bounds_fine.ensures ∙ not-false _ (ap not c.if-not-bounds_fine.false))
    (sym c.has_room.ensures ∙ not-false _ (ap not c.if-not-has_room.false))
    (sym c.values_fine.ensures ∙ not-false _ (ap not c.if-not-values_fine.false))
