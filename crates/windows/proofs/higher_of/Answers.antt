-- `windows::higher_of` meets its contract, by its test. Assumes nothing.
use Rattle.windows.specs.Windows.{higher}
use Rattle.windows.proofs.higher_of.Goals as goal

pub returns-then-x-y : goal.returns-then-x-y
unfolding higher
returns-then-x-y c = rw c.if-x-y.true

pub returns-else-x-y : goal.returns-else-x-y
unfolding higher
returns-else-x-y c = rw c.if-x-y.false
