-- `onsets::peaks::refusal` meets its contract: each return rewrites the chain of tests with those that led to it. Assumes nothing.
use mathlib.Core.Path.{sym, ◌∙◌}
use borrow.Author.Tests.{le-leb, lt-leb, not-true, not-false}
use Rattle.onsets.specs.Peaks.{suppression_refusal}
use mathlib.Core.Path.{ap}
use mathlib.Core.Bool.{not}
use Rattle.onsets.proofs.peaks.refusal.Goals as goal

pub returns-then-curve-gt-MOST_ROWS : goal.returns-then-curve-gt-MOST_ROWS
unfolding suppression_refusal
returns-then-curve-gt-MOST_ROWS c = simp (lt-leb _ _ c.if-curve-gt-MOST_ROWS.true)

pub returns-then-not-peaks_fine : goal.returns-then-not-peaks_fine
unfolding suppression_refusal
returns-then-not-peaks_fine c = simp (le-leb _ _ c.if-curve-gt-MOST_ROWS.false, sym c.peaks_fine.ensures ∙ not-true _ (ap not c.if-not-peaks_fine.true))

pub returns-then-room-peaks : goal.returns-then-room-peaks
unfolding suppression_refusal
returns-then-room-peaks c =
    simp (
      le-leb _ _ c.if-curve-gt-MOST_ROWS.false,
      sym c.peaks_fine.ensures ∙ not-false _ (ap not c.if-not-peaks_fine.false),
      lt-leb _ _ c.if-room-peaks.true,
    )

pub returns-then-values_fine : goal.returns-then-values_fine
unfolding suppression_refusal
returns-then-values_fine c =
    simp (
      le-leb _ _ c.if-curve-gt-MOST_ROWS.false,
      sym c.peaks_fine.ensures ∙ not-false _ (ap not c.if-not-peaks_fine.false),
      le-leb _ _ c.if-room-peaks.false,
      sym c.values_fine.ensures ∙ c.if-values_fine.true,
    )

pub returns : goal.returns
unfolding suppression_refusal
returns c =
    simp (
      le-leb _ _ c.if-curve-gt-MOST_ROWS.false,
      sym c.peaks_fine.ensures ∙ not-false _ (ap not c.if-not-peaks_fine.false),
      le-leb _ _ c.if-room-peaks.false,
      sym c.values_fine.ensures ∙ c.if-values_fine.false,
    )
