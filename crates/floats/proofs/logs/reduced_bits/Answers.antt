-- `floats::logs::reduced_bits` meets its contract: the code is the definition. Assumes nothing.
use Rattle.std.proofs.Common.{refl}
use Rattle.floats.specs.Logs.{power_of, rest_of, half_square, series_of}
use Rattle.floats.proofs.logs.reduced_bits.Goals as goal

pub returns : goal.returns
unfolding power_of rest_of half_square series_of
returns c = rw c.float_of-f.ensures (refl, refl, refl, refl)
