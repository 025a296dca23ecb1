-- `feature_refusal::refusal` meets its contract: each return rewrites the chain of tests with those that led to it. Assumes nothing.
use native.Mathlib.Omega.{arith}
use mathlib.Core.Path.{sym, ◌∙◌}
use borrow.Author.Tests.{le-leb, lt-leb, eq-eqb, ne_eqb, not-true, not-false}
use Rattle.feature_refusal.specs.Refusal.{features_number}
use Rattle.feature_refusal.proofs.Counts.{told}
use mathlib.Core.Path.{ap}
use mathlib.Core.Bool.{not}
use Rattle.feature_refusal.proofs.refusal.Goals as goal

pub returns-then-not-bounds_fine : goal.returns-then-not-bounds_fine
unfolding features_number
returns-then-not-bounds_fine c = simp (sym c.bounds_fine.ensures ∙ not-true _ (ap not c.if-not-bounds_fine.true))

pub overflow_mul-rows : goal.overflow_mul-rows
overflow_mul-rows c = let t = told _ _ _ (sym c.bounds_fine.ensures ∙ not-false _ (ap not c.if-not-bounds_fine.false)) in omega (arith, t.rows_fine)

pub returns-then-magnitudes-rows : goal.returns-then-magnitudes-rows
unfolding features_number
returns-then-magnitudes-rows c = simp (sym c.bounds_fine.ensures ∙ not-false _ (ap not c.if-not-bounds_fine.false), ne_eqb _ _ c.if-magnitudes-rows.true)

pub overflow_mul-grid : goal.overflow_mul-grid
overflow_mul-grid c =
    let t = told _ _ _ (sym c.bounds_fine.ensures ∙ not-false _ (ap not c.if-not-bounds_fine.false)) in
    omega (arith, t.count_fine)

pub returns-then-room-grid : goal.returns-then-room-grid
unfolding features_number
returns-then-room-grid c =
    simp (
      sym c.bounds_fine.ensures ∙ not-false _ (ap not c.if-not-bounds_fine.false),
      eq-eqb _ _ c.if-magnitudes-rows.false,
      lt-leb _ _ c.if-room-grid.true,
    )

pub returns-then-not-strengths_fine : goal.returns-then-not-strengths_fine
unfolding features_number
returns-then-not-strengths_fine c =
    simp (
      sym c.bounds_fine.ensures ∙ not-false _ (ap not c.if-not-bounds_fine.false),
      eq-eqb _ _ c.if-magnitudes-rows.false,
      le-leb _ _ c.if-room-grid.false,
      sym c.strengths_fine.ensures ∙ not-true _ (ap not c.if-not-strengths_fine.true),
    )

pub returns-then-samples_fine : goal.returns-then-samples_fine
unfolding features_number
returns-then-samples_fine c =
    simp (
      sym c.bounds_fine.ensures ∙ not-false _ (ap not c.if-not-bounds_fine.false),
      eq-eqb _ _ c.if-magnitudes-rows.false,
      le-leb _ _ c.if-room-grid.false,
      sym c.strengths_fine.ensures ∙ not-false _ (ap not c.if-not-strengths_fine.false),
      sym c.samples_fine.ensures ∙ c.if-samples_fine.true,
    )

pub returns : goal.returns
unfolding features_number
returns c =
    simp (
      sym c.bounds_fine.ensures ∙ not-false _ (ap not c.if-not-bounds_fine.false),
      eq-eqb _ _ c.if-magnitudes-rows.false,
      le-leb _ _ c.if-room-grid.false,
      sym c.strengths_fine.ensures ∙ not-false _ (ap not c.if-not-strengths_fine.false),
      sym c.samples_fine.ensures ∙ c.if-samples_fine.false,
    )
