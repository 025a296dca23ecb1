-- `patch_features::refusal` meets its contract: each return rewrites the chain of tests with those that led to it. What one test asks, those before
-- it said (`bounds-told`, `room-told`). Assumes nothing.
use mathlib.Core.Path.{sym, ◌∙◌}
use native.Mathlib.Omega.{arith}
use borrow.Author.Tests.{not-true, not-false}
use Rattle.patch_features.specs.Features.{feature_patch_number}
use Rattle.patch_features.proofs.Asked.{bounds-told, room-told}
use mathlib.Core.Path.{ap}
use mathlib.Core.Bool.{not}
use Rattle.patch_features.proofs.refusal.Goals as goal

pub returns-then-not-bounds_fine : goal.returns-then-not-bounds_fine
unfolding feature_patch_number
returns-then-not-bounds_fine c = rw (sym c.bounds_fine.ensures ∙ not-true _ (ap not c.if-not-bounds_fine.true))

pub whole_rows-requires : goal.whole_rows-requires
whole_rows-requires c =
    let b = bounds-told _ _ (sym c.bounds_fine.ensures ∙ not-false _ (ap not c.if-not-bounds_fine.false)) in
    (omega arith, omega arith, b.starts)

pub returns-then-not-whole_rows : goal.returns-then-not-whole_rows
unfolding feature_patch_number
returns-then-not-whole_rows c = rw (
  sym c.bounds_fine.ensures
      ∙ not-false _ (ap not c.if-not-bounds_fine.false),
  sym c.whole_rows.ensures ∙ not-true _ (ap not c.if-not-whole_rows.true),
)

pub room_fine-requires : goal.room_fine-requires
room_fine-requires c = (bounds-told _ _ (sym c.bounds_fine.ensures ∙ not-false _ (ap not c.if-not-bounds_fine.false))).rows_fit

pub returns-then-not-room_fine : goal.returns-then-not-room_fine
unfolding feature_patch_number
returns-then-not-room_fine c = rw (
  sym c.bounds_fine.ensures ∙ not-false _ (ap not c.if-not-bounds_fine.false),
  sym c.whole_rows.ensures ∙ not-false _ (ap not c.if-not-whole_rows.false),
  sym c.room_fine.ensures
      ∙ not-true _ (ap not c.if-not-room_fine.true),
)

pub values_fine-requires : goal.values_fine-requires
values_fine-requires c =
    let b = bounds-told _ _ (sym c.bounds_fine.ensures
    ∙ not-false _ (ap not c.if-not-bounds_fine.false)) in
    let r = room-told _ _ _ (sym c.room_fine.ensures ∙ not-false _ (ap not c.if-not-room_fine.false)) in
    (b.rows_fit, r.similarity_room, r.novelty_room)

pub returns-then-not-values_fine : goal.returns-then-not-values_fine
unfolding feature_patch_number
returns-then-not-values_fine c = rw (
  sym c.bounds_fine.ensures
      ∙ not-false _ (ap not c.if-not-bounds_fine.false),
  sym c.whole_rows.ensures
      ∙ not-false _ (ap not c.if-not-whole_rows.false),
  sym c.room_fine.ensures
      ∙ not-false _ (ap not c.if-not-room_fine.false),
  sym c.values_fine.ensures ∙ not-true _ (ap not c.if-not-values_fine.true),
)

pub returns : goal.returns
unfolding feature_patch_number
returns c = rw (
  sym c.bounds_fine.ensures
      ∙ not-false _ (ap not c.if-not-bounds_fine.false),
  sym c.whole_rows.ensures
      ∙ not-false _ (ap not c.if-not-whole_rows.false),
  sym c.room_fine.ensures
      ∙ not-false _ (ap not c.if-not-room_fine.false),
  sym c.values_fine.ensures ∙ not-false _ (ap not c.if-not-values_fine.false),
)
