-- `floats::logs::apart_of` meets its contract, by the tests of its branches. Assumes nothing.
use Rattle.std.proofs.Common.{eq-eqb, ne_eqb, le-leb}
use borrow.Author.Tests.{lt-leb}
use Rattle.floats.specs.Logs.{apart_of}
use Rattle.floats.proofs.logs.apart_of.Goals as goal

pub returns-then-n-eq0 : goal.returns-then-n-eq0
unfolding apart_of
returns-then-n-eq0 c = rw (eq-eqb _ _ c.if-n-eq0.true)

pub returns-then-n-ge9223372036854775808 : goal.returns-then-n-ge9223372036854775808
unfolding apart_of
returns-then-n-ge9223372036854775808 c = rw (ne_eqb _ _ c.if-n-eq0.false, le-leb _ _ c.if-n-ge9223372036854775808.true)

pub returns-then-n-ge9218868437227405312 : goal.returns-then-n-ge9218868437227405312
unfolding apart_of
returns-then-n-ge9218868437227405312 c = rw (ne_eqb _ _ c.if-n-eq0.false, lt-leb _ _ c.if-n-ge9223372036854775808.false, le-leb _ _ c.if-n-ge9218868437227405312.true)

pub returns : goal.returns
unfolding apart_of
returns c = rw (ne_eqb _ _ c.if-n-eq0.false, lt-leb _ _ c.if-n-ge9223372036854775808.false, lt-leb _ _ c.if-n-ge9218868437227405312.false)
