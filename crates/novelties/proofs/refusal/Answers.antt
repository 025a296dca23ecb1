-- `novelties::refusal` meets its contract: each answer by its row of the table and those before it. Assumes nothing.
use mathlib.Core.Path.{sym, ◌∙◌}
use borrow.Author.Tests.{le-leb, lt-leb, eq-eqb, ne_eqb, not-true, not-false}
use Rattle.numbers.proofs.Tests.{lowest_0, lowest_4}
use Rattle.novelties.specs.Novelty.{novelty_number}
use mathlib.Core.Path.{ap}
use mathlib.Core.Bool.{not}
use Rattle.novelties.proofs.refusal.Goals as goal

pub returns-then-rows-gt-MOST_FEATURES : goal.returns-then-rows-gt-MOST_FEATURES
unfolding novelty_number
returns-then-rows-gt-MOST_FEATURES c = simp (lt-leb _ _ c.if-rows-gt-MOST_FEATURES.true)

pub returns-then-similarity-rows : goal.returns-then-similarity-rows
unfolding novelty_number
returns-then-similarity-rows c = simp (le-leb _ _ c.if-rows-gt-MOST_FEATURES.false, ne_eqb _ _ c.if-similarity-rows.true)

pub returns-then-room-rows : goal.returns-then-room-rows
unfolding novelty_number
returns-then-room-rows c = simp (le-leb _ _ c.if-rows-gt-MOST_FEATURES.false, eq-eqb _ _ c.if-similarity-rows.false, lt-leb _ _ c.if-room-rows.true)

pub returns-then-not-similarities_fine : goal.returns-then-not-similarities_fine
unfolding novelty_number
returns-then-not-similarities_fine c =
    sym (lowest_4 _ _ _ _ (le-leb _ _ c.if-rows-gt-MOST_FEATURES.false) (eq-eqb _ _ c.if-similarity-rows.false) (le-leb _ _ c.if-room-rows.false)
    (sym c.similarities_fine.ensures ∙ not-true _ (ap not c.if-not-similarities_fine.true)))

pub returns : goal.returns
unfolding novelty_number
returns c =
    sym (lowest_0 _ _ _ _ (le-leb _ _ c.if-rows-gt-MOST_FEATURES.false) (eq-eqb _ _ c.if-similarity-rows.false) (le-leb _ _ c.if-room-rows.false)
    (sym c.similarities_fine.ensures ∙ not-false _ (ap not c.if-not-similarities_fine.false)))
