-- `lag_candidates::is_maximum` meets its contract: `&&` answers its right side where its left holds, and else its left. Assumes nothing.
use mathlib.Core.Path.{sym, ◌∙◌}
use Rattle.numbers.proofs.Tests.{and-held, and_failed}
use Rattle.lag_candidates.specs.Candidates.{maximum_at}
use Rattle.lag_candidates.proofs.is_maximum.Goals as goal

pub returns-then-right_fine : goal.returns-then-right_fine
unfolding maximum_at
returns-then-right_fine c =
    and-held _ _ (sym c.right_fine.ensures ∙ c.if-right_fine.true)
    ∙ and-held _ _ (sym c.left_fine.ensures ∙ c.if-left_fine.true)

pub returns-else-right_fine : goal.returns-else-right_fine
unfolding maximum_at
returns-else-right_fine c =
    c.right_fine.ensures
    ∙ and_failed _ _ (sym c.right_fine.ensures ∙ c.if-right_fine.false)
    ∙ and-held _ _ (sym c.left_fine.ensures ∙ c.if-left_fine.true)

pub returns-else-left_fine : goal.returns-else-left_fine
unfolding maximum_at
returns-else-left_fine c = c.left_fine.ensures ∙ and_failed _ _ (sym c.left_fine.ensures ∙ c.if-left_fine.false)
