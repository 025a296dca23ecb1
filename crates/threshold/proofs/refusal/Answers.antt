-- `threshold::refusal` meets its contract: each return rewrites the chain of tests with those that led to it. Assumes nothing.
use mathlib.Core.Path.{sym, ◌∙◌}
use borrow.Author.Tests.{le-leb, lt-leb}
use Rattle.threshold.specs.Threshold.{threshold_refusal}
use Rattle.threshold.proofs.refusal.Goals as goal

pub returns-then-flux-gt-MOST_ROWS : goal.returns-then-flux-gt-MOST_ROWS
unfolding threshold_refusal
returns-then-flux-gt-MOST_ROWS c = simp (lt-leb _ _ c.if-flux-gt-MOST_ROWS.true)

pub returns-then-room-flux : goal.returns-then-room-flux
unfolding threshold_refusal
returns-then-room-flux c = simp (le-leb _ _ c.if-flux-gt-MOST_ROWS.false, lt-leb _ _ c.if-room-flux.true)

pub returns-then-work-min : goal.returns-then-work-min
unfolding threshold_refusal
returns-then-work-min c =
    simp (
      le-leb _ _ c.if-flux-gt-MOST_ROWS.false,
      le-leb _ _ c.if-room-flux.false,
      lt-leb _ _ (rw c.min.ensures at c.if-work-min.true),
    )

pub returns-then-values_fine : goal.returns-then-values_fine
unfolding threshold_refusal
returns-then-values_fine c =
    simp (
      le-leb _ _ c.if-flux-gt-MOST_ROWS.false,
      le-leb _ _ c.if-room-flux.false,
      le-leb _ _ (rw c.min.ensures at c.if-work-min.false),
      sym c.values_fine.ensures ∙ c.if-values_fine.true,
    )

pub returns : goal.returns
unfolding threshold_refusal
returns c =
    simp (
      le-leb _ _ c.if-flux-gt-MOST_ROWS.false,
      le-leb _ _ c.if-room-flux.false,
      le-leb _ _ (rw c.min.ensures at c.if-work-min.false),
      sym c.values_fine.ensures ∙ c.if-values_fine.false,
    )
