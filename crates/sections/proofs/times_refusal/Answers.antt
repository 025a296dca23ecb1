-- `sections::times_refusal` meets its contract: each return rewrites the chain of tests with those that led to it. Assumes nothing.
use Rattle.std.proofs.Common.{sym, ◌∙◌, le-leb}
use borrow.Author.Tests.{lt-leb, not-true, not-false}
use Rattle.sections.specs.Times.{row_times_refusal}
use mathlib.Core.Path.{ap}
use mathlib.Core.Bool.{not}
use Rattle.sections.proofs.times_refusal.Goals as goal

pub returns-then-not-grid_fine : goal.returns-then-not-grid_fine
unfolding row_times_refusal
returns-then-not-grid_fine c = simp (sym c.grid_fine.ensures ∙ not-true _ (ap not c.if-not-grid_fine.true))

pub returns-then-not-all_at_most : goal.returns-then-not-all_at_most
unfolding row_times_refusal
returns-then-not-all_at_most c =
    simp (
      sym c.grid_fine.ensures ∙ not-false _ (ap not c.if-not-grid_fine.false),
      sym c.all_at_most.ensures ∙ not-true _ (ap not c.if-not-all_at_most.true),
    )

pub returns-then-room-rows : goal.returns-then-room-rows
unfolding row_times_refusal
returns-then-room-rows c =
    simp (
      sym c.grid_fine.ensures ∙ not-false _ (ap not c.if-not-grid_fine.false),
      sym c.all_at_most.ensures ∙ not-false _ (ap not c.if-not-all_at_most.false),
      lt-leb _ _ c.if-room-rows.true,
    )

pub returns : goal.returns
unfolding row_times_refusal
returns c =
    simp (
      sym c.grid_fine.ensures ∙ not-false _ (ap not c.if-not-grid_fine.false),
      sym c.all_at_most.ensures ∙ not-false _ (ap not c.if-not-all_at_most.false),
      le-leb _ _ c.if-room-rows.false,
    )
