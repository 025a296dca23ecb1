-- `times::microseconds` meets its contract: from one half on the rest asks for the next whole number, and 256·10^6·2^32 fits 64 bits. Assumes nothing.
use Prim.Native.Nat.{◌*◌}
use native.Mathlib.Nat.{mod-lt, div-le_self}
use native.Mathlib.Omega.{arith}
use Rattle.times.specs.Micros.{sample_of, microseconds}
use Rattle.times.proofs.Times.{half_next, half-same}
use Rattle.times.proofs.microseconds.Goals as goal

pub overflow_mul-rest : goal.overflow_mul-rest
overflow_mul-rest c = omega (arith, mod-lt (sample_of c.args.frame * 1000000) {m = c.args.rate} (omega arith))

pub overflow_add-result : goal.overflow_add-result
overflow_add-result c = omega (arith, div-le_self (sample_of c.args.frame * 1000000) c.args.rate)

pub returns-then-rest-wide : goal.returns-then-rest-wide
unfolding microseconds
returns-then-rest-wide c = half_next (sample_of c.args.frame * 1000000) c.args.rate (omega arith) (omega arith)

pub returns : goal.returns
unfolding microseconds
returns c = half-same (sample_of c.args.frame * 1000000) c.args.rate (omega arith) (omega arith)
