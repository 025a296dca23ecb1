-- `flux_rows::positive_part` meets its contract: its test is the definition's. Assumes nothing.
use Rattle.numbers.specs.Rounded.{positive_part}
use Rattle.flux_rows.proofs.positive_part.Goals as goal

pub returns-then-x : goal.returns-then-x
unfolding positive_part
returns-then-x c = rw c.if-x.true

pub returns-else-x : goal.returns-else-x
unfolding positive_part
returns-else-x c = rw c.if-x.false
