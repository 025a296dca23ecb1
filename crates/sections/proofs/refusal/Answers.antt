-- `sections::refusal` meets its contract: each return rewrites the chain of tests with those that led to it. Assumes nothing.
use Rattle.std.proofs.Common.{sym, ◌∙◌, le-leb}
use borrow.Author.Tests.{lt-leb, not-true, not-false}
use Rattle.sections.specs.Boundaries.{boundaries_refusal}
use mathlib.Core.Path.{ap}
use mathlib.Core.Bool.{not}
use Rattle.sections.proofs.refusal.Goals as goal

pub returns-then-novelty-gt-MOST_FEATURES : goal.returns-then-novelty-gt-MOST_FEATURES
unfolding boundaries_refusal
returns-then-novelty-gt-MOST_FEATURES c = simp (lt-leb _ _ c.if-novelty-gt-MOST_FEATURES.true)

pub returns-then-not-grid_fine : goal.returns-then-not-grid_fine
unfolding boundaries_refusal
returns-then-not-grid_fine c = simp (le-leb _ _ c.if-novelty-gt-MOST_FEATURES.false, sym c.grid_fine.ensures ∙ not-true _ (ap not c.if-not-grid_fine.true))

pub returns-then-room-novelty : goal.returns-then-room-novelty
unfolding boundaries_refusal
returns-then-room-novelty c =
    simp (
      le-leb _ _ c.if-novelty-gt-MOST_FEATURES.false,
      sym c.grid_fine.ensures ∙ not-false _ (ap not c.if-not-grid_fine.false),
      lt-leb _ _ c.if-room-novelty.true,
    )

pub returns-then-work-novelty : goal.returns-then-work-novelty
unfolding boundaries_refusal
returns-then-work-novelty c =
    simp (
      le-leb _ _ c.if-novelty-gt-MOST_FEATURES.false,
      sym c.grid_fine.ensures ∙ not-false _ (ap not c.if-not-grid_fine.false),
      le-leb _ _ c.if-room-novelty.false,
      lt-leb _ _ c.if-work-novelty.true,
    )

pub returns-then-values_fine : goal.returns-then-values_fine
unfolding boundaries_refusal
returns-then-values_fine c =
    simp (
      le-leb _ _ c.if-novelty-gt-MOST_FEATURES.false,
      sym c.grid_fine.ensures ∙ not-false _ (ap not c.if-not-grid_fine.false),
      le-leb _ _ c.if-room-novelty.false,
      le-leb _ _ c.if-work-novelty.false,
      sym c.values_fine.ensures ∙ c.if-values_fine.true,
    )

pub returns : goal.returns
unfolding boundaries_refusal
returns c =
    simp (
      le-leb _ _ c.if-novelty-gt-MOST_FEATURES.false,
      sym c.grid_fine.ensures ∙ not-false _ (ap not c.if-not-grid_fine.false),
      le-leb _ _ c.if-room-novelty.false,
      le-leb _ _ c.if-work-novelty.false,
      sym c.values_fine.ensures ∙ c.if-values_fine.false,
    )
