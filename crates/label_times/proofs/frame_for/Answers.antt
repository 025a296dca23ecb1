-- `label_times::frame_for` meets its contract: the code is the definition, and fits. Assumes nothing.
use native.Mathlib.Omega.{arith}
use Rattle.label_times.proofs.Frames.{rate_some, rate_most, product_fits}
use Rattle.label_times.specs.Frames.{frame_for}
use Rattle.label_times.proofs.frame_for.Goals as goal

pub overflow_mul-x-2 : goal.overflow_mul-x-2
overflow_mul-x-2 c = omega (arith, product_fits c.args.rate (rate_some _ c.requires.rate_value) (rate_most _ c.requires.rate_value) c.args.u c.requires.u_bound)

pub returns : goal.returns
unfolding frame_for
returns c = omega (arith, c.saturating_sub.ensures, c.div_ceil.ensures)
