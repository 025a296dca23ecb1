-- `feature_parts::higher` meets its contract: its test is the definition's. Assumes nothing.
use Rattle.feature_parts.proofs.higher.Goals as goal

pub returns-then-top-x : goal.returns-then-top-x
returns-then-top-x c = rw c.if-top-x.true

pub returns-else-top-x : goal.returns-else-top-x
returns-else-top-x c = rw c.if-top-x.false
