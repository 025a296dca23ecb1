-- `floats::exps::exp_by` meets its contract, by the branch on the sign. Assumes nothing.
use Rattle.floats.specs.Exps.{exp_by}
use Rattle.floats.proofs.exps.exp_by.Goals as goal

pub returns-then-negative : goal.returns-then-negative
unfolding exp_by
returns-then-negative c = let k = c.nearest_u64_to_f64-k.ensures in rw (c.if-negative.true, ← k, ← c.exp_less.ensures)
    c.scale_down.ensures

pub returns : goal.returns
unfolding exp_by
returns c = let k = c.nearest_u64_to_f64-k.ensures in rw
    (c.if-negative.false, ← k, ← c.exp_less-2.ensures) c.scale_up.ensures
