use Rattle.std.proofs.Common.{sym, ◌∙◌, arith}
use Rattle.numbers.proofs.Sums.{sum_step, sum_end}
use Rattle.lists.proofs.sum_of.Goals as goal

pub loop-x-preserved : goal.loop-x-preserved
loop-x-preserved c = sym (sum_step c.loop-x.sum c.args.xs.now c.loop-x.x-index (omega arith)) ∙ c.loop-x.invariant

pub returns : goal.returns
returns c = sym (sum_end c.loop-x.sum c.args.xs.now c.loop-x.x-index c.loop-x-test.false) ∙ c.loop-x.invariant
