-- `lag_candidates::is_apart` meets its contract: `&&` answers its right side where its left holds, and else its left. Assumes nothing.
use mathlib.Core.Path.{sym, ◌∙◌}
use Rattle.numbers.proofs.Tests.{and-held, and_failed, and-true}
use Rattle.lag_candidates.specs.Candidates.{stands_apart}
use Rattle.lag_candidates.proofs.is_apart.Goals as goal

pub returns-then-lags_apart : goal.returns-then-lags_apart
unfolding stands_apart
returns-then-lags_apart c =
    c.lags_apart-then-lags_apart.ensures ∙ and-true _
    ∙ and-held _ _ (sym c.lags_apart.ensures ∙ c.if-lags_apart.true)

pub returns-else-lags_apart : goal.returns-else-lags_apart
unfolding stands_apart
returns-else-lags_apart c = c.lags_apart.ensures ∙ and_failed _ _ (sym c.lags_apart.ensures ∙ c.if-lags_apart.false)
