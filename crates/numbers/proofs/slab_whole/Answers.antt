-- `numbers::slab_whole` meets its contract: rows times bins fits, since both are within their bounds. Assumes nothing.
use native.Mathlib.Nat.{mul-le-mul}
use native.Mathlib.Omega.{arith}
use Rattle.numbers.proofs.Slabs.{slab_fits}
use Rattle.numbers.proofs.slab_whole.Goals as goal

pub overflow_mul-result : goal.overflow_mul-result
overflow_mul-result c = let f = slab_fits _ c.requires in omega (arith, mul-le-mul f.rows_fit f.bins_fit)
