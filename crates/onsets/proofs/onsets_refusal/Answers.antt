-- `onsets::onsets_refusal` meets its contract: each return rewrites the chain of tests with those that led to it. Assumes nothing.
use mathlib.Core.Path.{sym, ◌∙◌}
use borrow.Author.Tests.{le-leb, lt-leb, eq-eqb, ne_eqb, not-true, not-false}
use Rattle.onsets.specs.Onsets.{onsets_refusal}
use mathlib.Core.Path.{ap}
use mathlib.Core.Bool.{not}
use Rattle.onsets.proofs.onsets_refusal.Goals as goal

pub returns-then-flux-gt-MOST_ROWS : goal.returns-then-flux-gt-MOST_ROWS
unfolding onsets_refusal
returns-then-flux-gt-MOST_ROWS c = simp (lt-leb _ _ c.if-flux-gt-MOST_ROWS.true)

pub returns-then-not-rate_fine : goal.returns-then-not-rate_fine
unfolding onsets_refusal
returns-then-not-rate_fine c = simp (le-leb _ _ c.if-flux-gt-MOST_ROWS.false, sym c.rate_fine.ensures ∙ not-true _ (ap not c.if-not-rate_fine.true))

pub returns-then-threshold-flux : goal.returns-then-threshold-flux
unfolding onsets_refusal
returns-then-threshold-flux c =
    simp (
      le-leb _ _ c.if-flux-gt-MOST_ROWS.false,
      sym c.rate_fine.ensures ∙ not-false _ (ap not c.if-not-rate_fine.false),
      ne_eqb _ _ c.if-threshold-flux.true,
    )

pub returns-then-room-flux : goal.returns-then-room-flux
unfolding onsets_refusal
returns-then-room-flux c =
    simp (
      le-leb _ _ c.if-flux-gt-MOST_ROWS.false,
      sym c.rate_fine.ensures ∙ not-false _ (ap not c.if-not-rate_fine.false),
      eq-eqb _ _ c.if-threshold-flux.false,
      lt-leb _ _ c.if-room-flux.true,
    )

pub returns-then-not-values_fine : goal.returns-then-not-values_fine
unfolding onsets_refusal
returns-then-not-values_fine c =
    simp (
      le-leb _ _ c.if-flux-gt-MOST_ROWS.false,
      sym c.rate_fine.ensures ∙ not-false _ (ap not c.if-not-rate_fine.false),
      eq-eqb _ _ c.if-threshold-flux.false,
      le-leb _ _ c.if-room-flux.false,
      sym c.values_fine.ensures ∙ not-true _ (ap not c.if-not-values_fine.true),
    )

pub returns-then-values_fine : goal.returns-then-values_fine
unfolding onsets_refusal
returns-then-values_fine c =
    simp (
      le-leb _ _ c.if-flux-gt-MOST_ROWS.false,
      sym c.rate_fine.ensures
          ∙ not-false _ (ap not c.if-not-rate_fine.false),
      eq-eqb _ _ c.if-threshold-flux.false,
      le-leb _ _ c.if-room-flux.false,
      sym c.values_fine.ensures ∙ not-false _ (ap not c.if-not-values_fine.false),
      sym c.values_fine-2.ensures ∙ c.if-values_fine.true,
    )

pub returns : goal.returns
unfolding onsets_refusal
returns c =
    simp (
      le-leb _ _ c.if-flux-gt-MOST_ROWS.false,
      sym c.rate_fine.ensures
          ∙ not-false _ (ap not c.if-not-rate_fine.false),
      eq-eqb _ _ c.if-threshold-flux.false,
      le-leb _ _ c.if-room-flux.false,
      sym c.values_fine.ensures ∙ not-false _ (ap not c.if-not-values_fine.false),
      sym c.values_fine-2.ensures ∙ c.if-values_fine.false,
    )
