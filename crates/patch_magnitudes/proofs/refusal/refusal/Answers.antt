-- `patch_magnitudes::refusal::refusal` meets its contract: each return rewrites the chain of tests with those that led to it. What one test asks,
-- those before it said (`room-told`). Assumes nothing.
use mathlib.Core.Path.{sym, ◌∙◌}
use borrow.Author.Tests.{not-true, not-false}
use Rattle.patch_magnitudes.specs.Tracks.{patch_number}
use Rattle.patch_magnitudes.proofs.Asked.{room-told}
use mathlib.Core.Path.{ap}
use mathlib.Core.Bool.{not}
use Rattle.patch_magnitudes.proofs.refusal.refusal.Goals as goal

pub returns-then-not-bounds_fine : goal.returns-then-not-bounds_fine
unfolding patch_number
returns-then-not-bounds_fine c = rw (sym c.bounds_fine.ensures ∙ not-true _ (ap not c.if-not-bounds_fine.true))

pub lengths_fine-requires : goal.lengths_fine-requires
lengths_fine-requires c = sym c.bounds_fine.ensures ∙ not-false _ (ap not c.if-not-bounds_fine.false)

pub returns-then-not-lengths_fine : goal.returns-then-not-lengths_fine
unfolding patch_number
returns-then-not-lengths_fine c = rw (
  sym c.bounds_fine.ensures
      ∙ not-false _ (ap not c.if-not-bounds_fine.false),
  sym c.lengths_fine.ensures ∙ not-true _ (ap not c.if-not-lengths_fine.true),
)

pub returns-then-not-room_fine : goal.returns-then-not-room_fine
unfolding patch_number
returns-then-not-room_fine c = rw (
  sym c.bounds_fine.ensures ∙ not-false _ (ap not c.if-not-bounds_fine.false),
  sym c.lengths_fine.ensures ∙ not-false _ (ap not c.if-not-lengths_fine.false),
  sym c.room_fine.ensures
      ∙ not-true _ (ap not c.if-not-room_fine.true),
)

pub values_fine-requires : goal.values_fine-requires
values_fine-requires c =
    let r = room-told _ _ _ _ (sym c.room_fine.ensures ∙ not-false _ (ap not c.if-not-room_fine.false)) in
    (r.flux_room, r.threshold_room)

pub returns-then-not-values_fine : goal.returns-then-not-values_fine
unfolding patch_number
returns-then-not-values_fine c = rw (
  sym c.bounds_fine.ensures
      ∙ not-false _ (ap not c.if-not-bounds_fine.false),
  sym c.lengths_fine.ensures ∙ not-false _ (ap not c.if-not-lengths_fine.false),
  sym c.room_fine.ensures ∙ not-false _ (ap not c.if-not-room_fine.false),
  sym c.values_fine.ensures
      ∙ not-true _ (ap not c.if-not-values_fine.true),
)

pub returns : goal.returns
unfolding patch_number
returns c = rw (
  sym c.bounds_fine.ensures
      ∙ not-false _ (ap not c.if-not-bounds_fine.false),
  sym c.lengths_fine.ensures ∙ not-false _ (ap not c.if-not-lengths_fine.false),
  sym c.room_fine.ensures ∙ not-false _ (ap not c.if-not-room_fine.false),
  sym c.values_fine.ensures
      ∙ not-false _ (ap not c.if-not-values_fine.false),
)
