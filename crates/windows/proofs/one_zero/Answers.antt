-- `windows::one_zero` meets its contract, by its test. Assumes nothing.
use Rattle.windows.specs.Windows.{one_zero}
use Rattle.windows.proofs.one_zero.Goals as goal

pub returns-then-x : goal.returns-then-x
unfolding one_zero
returns-then-x c = rw c.if-x.true

pub returns-else-x : goal.returns-else-x
unfolding one_zero
returns-else-x c = rw c.if-x.false
