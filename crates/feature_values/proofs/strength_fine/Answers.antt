-- `feature_values::strength_fine` meets its contract: `&&` answers its right side where its left holds. Assumes nothing.
use lib.Ieee.{of_bits}
use Rattle.feature_lanes.specs.Addends.{strength_fine}
use Rattle.numbers.proofs.Tests.{and-held, and_failed}
use Rattle.feature_values.proofs.strength_fine.Goals as goal

pub returns-then-x : goal.returns-then-x
unfolding strength_fine of_bits
returns-then-x c = and-held _ _ c.if-x.true

pub returns-else-x : goal.returns-else-x
unfolding strength_fine of_bits
returns-else-x c = and_failed _ _ c.if-x.false
