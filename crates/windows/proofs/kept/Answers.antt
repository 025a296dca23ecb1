-- `windows::kept` meets its contract, by its test. Assumes nothing.
use Rattle.windows.proofs.kept.Goals as goal

pub returns-then-x-o : goal.returns-then-x-o
returns-then-x-o c = rw c.if-x-o.true

pub returns-else-x-o : goal.returns-else-x-o
returns-else-x-o c = rw c.if-x-o.false
