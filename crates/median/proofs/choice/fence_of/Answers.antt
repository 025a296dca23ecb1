-- `median::choice::fence_of` is safe: a slice has fewer than 2^60 entries, so twelve times a rank fits. Assumes nothing.
use native.Mathlib.Omega.{arith}
use Rattle.median.proofs.choice.fence_of.Goals as goal

pub overflow_mul-rank : goal.overflow_mul-rank
overflow_mul-rank c = omega (arith, c.requires, c.well_formed.0.1)

pub nonzero_div-rank : goal.nonzero_div-rank
nonzero_div-rank c = omega (arith, c.requires)

pub returns : goal.returns
returns c = tt
