-- `floats::bits::float_of` meets its contract. Assumes nothing.
use Rattle.std.proofs.Common.{sym, ◌∙◌}
use Rattle.floats.proofs.Patterns.{above_is_nan, no_nan_bits, zero_by_zero}
use Rattle.floats.proofs.bits.float_of.Goals as goal

pub float_from_bits-result : goal.float_from_bits-result
float_from_bits-result c = rw (no_nan_bits _ c.if-n-gt9218868437227405312.false) tt

pub returns-then-n-gt9218868437227405312 : goal.returns-then-n-gt9218868437227405312
returns-then-n-gt9218868437227405312 c = zero_by_zero ∙ sym (above_is_nan _ c.if-n-gt9218868437227405312.true)
