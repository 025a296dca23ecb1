-- `windows::lower_of` meets its contract, by its test. Assumes nothing.
use Rattle.windows.specs.Windows.{lower}
use Rattle.windows.proofs.lower_of.Goals as goal

pub returns-then-x-y : goal.returns-then-x-y
unfolding lower
returns-then-x-y c = rw c.if-x-y.true

pub returns-else-x-y : goal.returns-else-x-y
unfolding lower
returns-else-x-y c = rw c.if-x-y.false
