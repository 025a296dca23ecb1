use native.Mathlib.Omega.{arith}
use mathlib.Core.Path.{refl, sym, ◌∙◌}
use Rattle.feature_parts.specs.Parts.{lane_sum}
use Rattle.feature_parts.proofs.Greatest.{greatest-more, greatest_end}
use Rattle.feature_parts.proofs.greatest_class.Goals as goal

pub loop-p-init : goal.loop-p-init
loop-p-init c = (omega arith, refl)

pub loop-p-preserved : goal.loop-p-preserved
loop-p-preserved c =
    (omega arith, greatest-more (lane_sum c.args.classes.now c.args.lane) c.loop-p.p 12 _ _ _ (omega arith) c.higher-top.ensures c.loop-p.invariant.1)

pub returns : goal.returns
returns c =
    sym (greatest_end (lane_sum c.args.classes.now c.args.lane) c.loop-p.p 12 _ (omega arith)) ∙ c.loop-p.invariant.1
