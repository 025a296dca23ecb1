-- `floats::bits::bits_of` meets its contract. Assumes nothing.
use Rattle.std.proofs.Common.{sym, ap, ◌∙◌}
use lib.Ieee.{binary64, to_bits}
use Rattle.floats.proofs.Patterns.{no_nan, is_nan_lem, nan_bits_lem}
use Rattle.floats.proofs.bits.bits_of.Goals as goal

pub float_to_bits-result : goal.float_to_bits-result
float_to_bits-result c = no_nan _ c.if-x.false

pub returns-then-x : goal.returns-then-x
returns-then-x c = sym (ap (to_bits binary64) (is_nan_lem _ c.if-x.true) ∙ nan_bits_lem)
