-- `floats::logs::in_sequence` meets its contract, by the tests of its branches. Assumes nothing.
use Rattle.std.proofs.Common.{le-ltb, lt-ltb}
use Rattle.floats.specs.Logs.{in_sequence}
use Rattle.floats.proofs.logs.in_sequence.Goals as goal

pub returns-then-n-lt9218868437227405312 : goal.returns-then-n-lt9218868437227405312
unfolding in_sequence
returns-then-n-lt9218868437227405312 c = rw (lt-ltb _ _ c.if-n-gt0.true, lt-ltb _ _ c.if-n-lt9218868437227405312.true)

pub returns-else-n-lt9218868437227405312 : goal.returns-else-n-lt9218868437227405312
unfolding in_sequence
returns-else-n-lt9218868437227405312 c = rw (lt-ltb _ _ c.if-n-gt0.true, le-ltb _ _ c.if-n-lt9218868437227405312.false)

pub returns-else-n-gt0 : goal.returns-else-n-gt0
unfolding in_sequence
returns-else-n-gt0 c = rw (le-ltb _ _ c.if-n-gt0.false)
