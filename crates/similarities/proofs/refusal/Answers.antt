-- `similarities::refusal` meets its contract: each answer by its row of the table and those before it. Assumes nothing.
use mathlib.Core.Path.{sym, ◌∙◌}
use borrow.Author.Tests.{le-leb, lt-leb, eq-eqb, ne_eqb, not-true, not-false}
use Rattle.numbers.proofs.Tests.{lowest_0, lowest_4}
use Rattle.similarities.specs.Similarity.{similarity_number}
use mathlib.Core.Path.{ap}
use mathlib.Core.Bool.{not}
use Rattle.similarities.proofs.refusal.Goals as goal

pub returns-then-rows-gt-MOST_FEATURES : goal.returns-then-rows-gt-MOST_FEATURES
unfolding similarity_number
returns-then-rows-gt-MOST_FEATURES c = simp (lt-leb _ _ c.if-rows-gt-MOST_FEATURES.true)

pub returns-then-features-rows : goal.returns-then-features-rows
unfolding similarity_number
returns-then-features-rows c = simp (le-leb _ _ c.if-rows-gt-MOST_FEATURES.false, ne_eqb _ _ c.if-features-rows.true)

pub returns-then-room-rows : goal.returns-then-room-rows
unfolding similarity_number
returns-then-room-rows c = simp (le-leb _ _ c.if-rows-gt-MOST_FEATURES.false, eq-eqb _ _ c.if-features-rows.false, lt-leb _ _ c.if-room-rows.true)

pub returns-then-not-values_fine : goal.returns-then-not-values_fine
unfolding similarity_number
returns-then-not-values_fine c =
    sym (lowest_4 _ _ _ _ (le-leb _ _ c.if-rows-gt-MOST_FEATURES.false) (eq-eqb _ _ c.if-features-rows.false) (le-leb _ _ c.if-room-rows.false)
    (sym c.values_fine.ensures ∙ not-true _ (ap not c.if-not-values_fine.true)))

pub returns : goal.returns
unfolding similarity_number
returns c =
    sym (lowest_0 _ _ _ _ (le-leb _ _ c.if-rows-gt-MOST_FEATURES.false) (eq-eqb _ _ c.if-features-rows.false) (le-leb _ _ c.if-room-rows.false)
    (sym c.values_fine.ensures ∙ not-false _ (ap not c.if-not-values_fine.false)))
