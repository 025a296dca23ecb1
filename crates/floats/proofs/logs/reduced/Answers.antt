-- `floats::logs::reduced` meets its contract, by the branch on subnormal values. Assumes nothing.
use Rattle.std.proofs.Common.{le-ltb, lt-ltb}
use Rattle.floats.specs.Logs.{scaled_bits, bias_of}
use Rattle.floats.proofs.logs.reduced.Goals as goal

pub returns-then-n-lt4503599627370496 : goal.returns-then-n-lt4503599627370496
unfolding scaled_bits bias_of
returns-then-n-lt4503599627370496 c = rw (lt-ltb _ _ c.if-n-lt4503599627370496.true, ← c.bits_of.ensures) c.reduced_bits.ensures

pub returns : goal.returns
unfolding scaled_bits bias_of
returns c = rw (le-ltb _ _ c.if-n-lt4503599627370496.false) c.reduced_bits-2.ensures
