-- `feature_parts::part_of` meets its contract: its test is the definition's. Assumes nothing.
use Rattle.feature_parts.specs.Parts.{part_of}
use Rattle.feature_parts.proofs.part_of.Goals as goal

pub returns-then-whole : goal.returns-then-whole
unfolding part_of
returns-then-whole c = rw c.if-whole.true

pub returns-else-whole : goal.returns-else-whole
unfolding part_of
returns-else-whole c = rw c.if-whole.false
