-- `onsets::times_refusal` meets its contract: each return rewrites the chain of tests with those that led to it. Assumes nothing.
use mathlib.Core.Path.{sym, ◌∙◌}
use borrow.Author.Tests.{le-leb, lt-leb, not-true, not-false}
use Rattle.onsets.specs.Onsets.{times_refusal}
use mathlib.Core.Path.{ap}
use mathlib.Core.Bool.{not}
use Rattle.onsets.proofs.times_refusal.Goals as goal

pub returns-then-not-rate_fine : goal.returns-then-not-rate_fine
unfolding times_refusal
returns-then-not-rate_fine c = simp (sym c.rate_fine.ensures ∙ not-true _ (ap not c.if-not-rate_fine.true))

pub returns-then-not-all_at_most : goal.returns-then-not-all_at_most
unfolding times_refusal
returns-then-not-all_at_most c =
    simp (
      sym c.rate_fine.ensures ∙ not-false _ (ap not c.if-not-rate_fine.false),
      sym c.all_at_most.ensures ∙ not-true _ (ap not c.if-not-all_at_most.true),
    )

pub returns-then-room-frames : goal.returns-then-room-frames
unfolding times_refusal
returns-then-room-frames c =
    simp (
      sym c.rate_fine.ensures ∙ not-false _ (ap not c.if-not-rate_fine.false),
      sym c.all_at_most.ensures ∙ not-false _ (ap not c.if-not-all_at_most.false),
      lt-leb _ _ c.if-room-frames.true,
    )

pub returns : goal.returns
unfolding times_refusal
returns c =
    simp (
      sym c.rate_fine.ensures ∙ not-false _ (ap not c.if-not-rate_fine.false),
      sym c.all_at_most.ensures ∙ not-false _ (ap not c.if-not-all_at_most.false),
      le-leb _ _ c.if-room-frames.false,
    )
