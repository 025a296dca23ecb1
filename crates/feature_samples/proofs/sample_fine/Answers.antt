-- `feature_samples::sample_fine` meets its contract: `&&` answers its right side where its left holds. Assumes nothing.
use Rattle.feature_levels.specs.Levels.{sample_fine}
use Rattle.numbers.proofs.Tests.{and-held, and_failed}
use Rattle.feature_samples.proofs.sample_fine.Goals as goal

pub returns-then-x : goal.returns-then-x
unfolding sample_fine
returns-then-x c = and-held _ _ c.if-x.true

pub returns-else-x : goal.returns-else-x
unfolding sample_fine
returns-else-x c = and_failed _ _ c.if-x.false
