-- `patch_magnitudes::refusal::values_fine` meets its contract: each return rewrites the chain of tests with those that led to it. Assumes nothing.
use mathlib.Core.Path.{sym, ◌∙◌}
use borrow.Author.Tests.{not-true, not-false}
use Rattle.numbers.specs.Limits.{value_fine}
use Rattle.patches.proofs.Parts.{first-slots}
use Rattle.patch_magnitudes.specs.Tracks.{patch_values}
use mathlib.Core.Path.{ap}
use mathlib.Core.Bool.{not}
use Rattle.patch_magnitudes.proofs.refusal.values_fine.Goals as goal

pub returns-then-not-magnitudes_fine : goal.returns-then-not-magnitudes_fine
unfolding patch_values
returns-then-not-magnitudes_fine c = rw (sym c.magnitudes_fine.ensures ∙ not-true _ (ap not c.if-not-magnitudes_fine.true))

pub returns-then-not-magnitudes_fine-2 : goal.returns-then-not-magnitudes_fine-2
unfolding patch_values
returns-then-not-magnitudes_fine-2 c = rw (
  sym c.magnitudes_fine.ensures
      ∙ not-false _ (ap not c.if-not-magnitudes_fine.false),
  sym c.magnitudes_fine-2.ensures ∙ not-true _ (ap not c.if-not-magnitudes_fine-2.true),
)

pub returns-then-not-values_fine : goal.returns-then-not-values_fine
unfolding patch_values
returns-then-not-values_fine c =
    let g = c.args in
    rw (
      sym c.magnitudes_fine.ensures
          ∙ not-false _ (ap not c.if-not-magnitudes_fine.false),
      sym c.magnitudes_fine-2.ensures
          ∙ not-false _ (ap not c.if-not-magnitudes_fine-2.false),
      first-slots value_fine g.flux.now g.rows _ c.values_fine.ensures
          ∙ not-true _ (ap not c.if-not-values_fine.true),
    )

pub returns : goal.returns
unfolding patch_values
returns c =
    let g = c.args in
    rw (
      sym c.magnitudes_fine.ensures
          ∙ not-false _ (ap not c.if-not-magnitudes_fine.false),
      sym c.magnitudes_fine-2.ensures
          ∙ not-false _ (ap not c.if-not-magnitudes_fine-2.false),
      first-slots value_fine g.flux.now g.rows _
          c.values_fine.ensures ∙ not-false _ (ap not c.if-not-values_fine.false),
    )
    (sym (first-slots value_fine g.threshold.now g.rows _ c.values_fine-2.ensures))
