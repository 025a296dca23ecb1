-- `stability::refusal` meets its contract: past the whole lag, the number is that of `estimate`. Assumes nothing.
use mathlib.Core.Path.{◌∙◌}
use Rattle.stability.proofs.Refusals.{lag_too_long, lag_fine}
use Rattle.stability.proofs.refusal.Goals as goal

pub returns-then-whole_lag-gt-MOST_PERIOD : goal.returns-then-whole_lag-gt-MOST_PERIOD
returns-then-whole_lag-gt-MOST_PERIOD c = lag_too_long _ _ _ _ _ _ _ c.if-whole_lag-gt-MOST_PERIOD.true

pub returns : goal.returns
returns c = c.search_refusal.ensures ∙ lag_fine _ _ _ _ _ _ _ c.if-whole_lag-gt-MOST_PERIOD.false
