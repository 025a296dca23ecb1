-- `feature_refusal::bounds_fine` meets its contract: each return rewrites the chain of tests with those that led to it. Assumes nothing.
use mathlib.Core.Path.{sym, ap, ◌∙◌}
use lib.Dec.{eqb}
use borrow.Author.Tests.{le-leb, lt-leb, not-true, not-false}
use Rattle.feature_refusal.specs.Refusal.{feature_bounds}
use Rattle.feature_refusal.proofs.Counts.{last_decides}
use mathlib.Core.Bool.{not}
use Rattle.feature_refusal.proofs.bounds_fine.Goals as goal

pub returns-then-rows-gt-MOST_ROWS : goal.returns-then-rows-gt-MOST_ROWS
unfolding feature_bounds
returns-then-rows-gt-MOST_ROWS c = simp (lt-leb _ _ c.if-rows-gt-MOST_ROWS.true)

pub returns-then-length-lt1 : goal.returns-then-length-lt1
unfolding feature_bounds
returns-then-length-lt1 c = simp (le-leb _ _ c.if-rows-gt-MOST_ROWS.false, lt-leb _ _ c.if-length-lt1.true)

pub returns-then-length-gt-MOST_LENGTH : goal.returns-then-length-gt-MOST_LENGTH
unfolding feature_bounds
returns-then-length-gt-MOST_LENGTH c = simp (le-leb _ _ c.if-rows-gt-MOST_ROWS.false, le-leb _ _ c.if-length-lt1.false, lt-leb _ _ c.if-length-gt-MOST_LENGTH.true)

pub returns-then-not-rate_fine : goal.returns-then-not-rate_fine
unfolding feature_bounds
returns-then-not-rate_fine c =
    simp (
      le-leb _ _ c.if-rows-gt-MOST_ROWS.false,
      le-leb _ _ c.if-length-lt1.false,
      le-leb _ _ c.if-length-gt-MOST_LENGTH.false,
      sym c.rate_fine.ensures ∙ not-true _ (ap not c.if-not-rate_fine.true),
    )

pub returns-then-grid-gt-MOST_FEATURES : goal.returns-then-grid-gt-MOST_FEATURES
unfolding feature_bounds
returns-then-grid-gt-MOST_FEATURES c =
    simp (
      le-leb _ _ c.if-rows-gt-MOST_ROWS.false,
      le-leb _ _ c.if-length-lt1.false,
      le-leb _ _ c.if-length-gt-MOST_LENGTH.false,
      sym c.rate_fine.ensures ∙ not-false _ (ap not c.if-not-rate_fine.false),
      lt-leb _ _ c.if-grid-gt-MOST_FEATURES.true,
    )

pub returns : goal.returns
unfolding feature_bounds
returns c =
    ap (eqb _) c.count_of.ensures
    ∙ last_decides _ _ _ _ _ _ (le-leb _ _ c.if-rows-gt-MOST_ROWS.false) (le-leb _ _ c.if-length-lt1.false) (le-leb _ _ c.if-length-gt-MOST_LENGTH.false)
    (sym c.rate_fine.ensures ∙ not-false _ (ap not c.if-not-rate_fine.false)) (le-leb _ _ c.if-grid-gt-MOST_FEATURES.false)
