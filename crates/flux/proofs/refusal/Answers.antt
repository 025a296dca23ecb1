-- `flux::refusal` meets its contract: each return rewrites the chain of tests with those that led to it. Assumes nothing.
use mathlib.Core.Path.{sym, ◌∙◌}
use borrow.Author.Tests.{le-leb, lt-leb, not-true, not-false}
use Rattle.flux.specs.Flux.{flux_refusal}
use mathlib.Core.Path.{ap}
use mathlib.Core.Bool.{not}
use Rattle.flux.proofs.refusal.Goals as goal

pub returns-then-not-slab_fine : goal.returns-then-not-slab_fine
unfolding flux_refusal
returns-then-not-slab_fine c = simp (sym c.slab_fine.ensures ∙ not-true _ (ap not c.if-not-slab_fine.true))

pub slab_whole-requires : goal.slab_whole-requires
slab_whole-requires c = sym c.slab_fine.ensures ∙ not-false _ (ap not c.if-not-slab_fine.false)

pub returns-then-not-slab_whole : goal.returns-then-not-slab_whole
unfolding flux_refusal
returns-then-not-slab_whole c =
    simp (
      sym c.slab_fine.ensures ∙ not-false _ (ap not c.if-not-slab_fine.false),
      sym c.slab_whole.ensures ∙ not-true _ (ap not c.if-not-slab_whole.true),
    )

pub returns-then-room-slab : goal.returns-then-room-slab
unfolding flux_refusal
returns-then-room-slab c =
    simp (
      sym c.slab_fine.ensures ∙ not-false _ (ap not c.if-not-slab_fine.false),
      sym c.slab_whole.ensures ∙ not-false _ (ap not c.if-not-slab_whole.false),
      lt-leb _ _ c.if-room-slab.true,
    )

pub returns-then-magnitudes_fine : goal.returns-then-magnitudes_fine
unfolding flux_refusal
returns-then-magnitudes_fine c =
    simp (
      sym c.slab_fine.ensures
          ∙ not-false _ (ap not c.if-not-slab_fine.false),
      sym c.slab_whole.ensures ∙ not-false _ (ap not c.if-not-slab_whole.false),
      le-leb _ _ c.if-room-slab.false,
      sym c.magnitudes_fine.ensures ∙ c.if-magnitudes_fine.true,
    )

pub returns : goal.returns
unfolding flux_refusal
returns c =
    simp (
      sym c.slab_fine.ensures
          ∙ not-false _ (ap not c.if-not-slab_fine.false),
      sym c.slab_whole.ensures ∙ not-false _ (ap not c.if-not-slab_whole.false),
      le-leb _ _ c.if-room-slab.false,
      sym c.magnitudes_fine.ensures ∙ c.if-magnitudes_fine.false,
    )
