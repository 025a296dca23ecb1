use Rattle.std.proofs.Common.{sym, refl, ◌∙◌, arith}
use Rattle.sections.proofs.Confidences.{greatest_step, greatest_end}
use Rattle.sections.proofs.confidence.greatest_of.Goals as goal

pub loop-i-init : goal.loop-i-init
loop-i-init c = (omega arith, refl)

pub loop-i-preserved : goal.loop-i-preserved
loop-i-preserved c =
    let xs = c.args.values.now in
    (omega arith, rw c.greater-top.ensures (sym (greatest_step _ xs c.loop-i.i (omega arith)) ∙ c.loop-i.invariant.1))

pub returns : goal.returns
returns c =
    sym (greatest_end _ _ _ c.loop-i-test.false) ∙ c.loop-i.invariant.1
