-- `floats::bits::key_of` meets its contract: the two ways of `turned`, by the test of its branch. Assumes nothing.
use Rattle.std.proofs.Common.{le-ltb, lt-ltb}
use Rattle.floats.specs.TotalOrder.{turned, key}
use Rattle.floats.proofs.bits.key_of.Goals as goal

pub returns-then-b-lt9223372036854775808 : goal.returns-then-b-lt9223372036854775808
unfolding key turned
returns-then-b-lt9223372036854775808 c = rw (← c.bits_of-b.ensures, lt-ltb _ _ c.if-b-lt9223372036854775808.true)

pub returns-else-b-lt9223372036854775808 : goal.returns-else-b-lt9223372036854775808
unfolding key turned
returns-else-b-lt9223372036854775808 c = rw (← c.bits_of-b.ensures, le-ltb _ _ c.if-b-lt9223372036854775808.false)
