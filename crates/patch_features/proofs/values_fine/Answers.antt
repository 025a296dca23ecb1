-- `patch_features::values_fine` meets its contract: each return rewrites the chain of tests with those that led to it. Assumes nothing.
use mathlib.Core.Path.{sym, ◌∙◌}
use Prim.Native.Nat.{◌*◌}
use borrow.Author.Tests.{not-true, not-false}
use Rattle.numbers.specs.Limits.{value_fine, similarity_fine}
use Rattle.patches.proofs.Parts.{first-slots}
use Rattle.patch_features.specs.Features.{feature_patch_values}
use mathlib.Core.Path.{ap}
use mathlib.Core.Bool.{not}
use Rattle.patch_features.proofs.values_fine.Goals as goal

pub returns-then-not-values_fine : goal.returns-then-not-values_fine
unfolding feature_patch_values
returns-then-not-values_fine c = rw (sym c.values_fine.ensures ∙ not-true _ (ap not c.if-not-values_fine.true))

pub returns-then-not-values_fine-2 : goal.returns-then-not-values_fine-2
unfolding feature_patch_values
returns-then-not-values_fine-2 c = rw (
  sym c.values_fine.ensures
      ∙ not-false _ (ap not c.if-not-values_fine.false),
  sym c.values_fine-2.ensures ∙ not-true _ (ap not c.if-not-values_fine-2.true),
)

pub returns-then-not-similarities_fine : goal.returns-then-not-similarities_fine
unfolding feature_patch_values
returns-then-not-similarities_fine c =
    let g = c.args in
    rw (
      sym c.values_fine.ensures
          ∙ not-false _ (ap not c.if-not-values_fine.false),
      sym c.values_fine-2.ensures
          ∙ not-false _ (ap not c.if-not-values_fine-2.false),
      first-slots similarity_fine g.similarity.now (g.rows * 17) _
          c.similarities_fine.ensures ∙ not-true _ (ap not c.if-not-similarities_fine.true),
    )

pub returns : goal.returns
unfolding feature_patch_values
returns c =
    let g = c.args in
    rw (
      sym c.values_fine.ensures
          ∙ not-false _ (ap not c.if-not-values_fine.false),
      sym c.values_fine-2.ensures
          ∙ not-false _ (ap not c.if-not-values_fine-2.false),
      first-slots similarity_fine g.similarity.now (g.rows * 17) _
          c.similarities_fine.ensures ∙ not-false _ (ap not c.if-not-similarities_fine.false),
    )
    (sym (first-slots value_fine g.novelty.now g.rows _ c.values_fine-3.ensures))
