-- `feature_refusal::count_of` meets its contract: a quotient, and one more where there is a remainder. Assumes nothing.
use native.Mathlib.Omega.{arith}
use Rattle.feature_refusal.proofs.Counts.{count-up, count_even, count_under}
use Rattle.feature_refusal.proofs.count_of.Goals as goal

pub overflow_add-result : goal.overflow_add-result
overflow_add-result c = omega (arith, count_under c.args.samples c.args.length c.requires c.if-samples-length-gt0.true)

pub returns-then-samples-length-gt0 : goal.returns-then-samples-length-gt0
returns-then-samples-length-gt0 c = count-up c.args.samples c.args.length c.requires c.if-samples-length-gt0.true

pub returns : goal.returns
returns c = count_even c.args.samples c.args.length c.requires c.if-samples-length-gt0.false
