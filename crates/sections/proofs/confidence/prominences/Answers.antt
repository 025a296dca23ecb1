use Rattle.std.proofs.Common.{ltb, length, sym, refl, ◌∙◌, arith, ltb-true}
use Rattle.numbers.proofs.Everys.{every-at}
use Rattle.sections.specs.Confidence.{prominence}
use Rattle.sections.proofs.Confidences.{map_sum_step, map_sum_end}
use Rattle.sections.proofs.confidence.prominences.Goals as goal

pub loop-i-init : goal.loop-i-init
loop-i-init c = (omega arith, refl)

pub overflow_cast-rows : goal.overflow_cast-rows
overflow_cast-rows c = omega (arith, c.shared_slice_known-in-loop-i-1.given c.loop-i.i)

pub prominence_of-sum-requires : goal.prominence_of-sum-requires
prominence_of-sum-requires c =
    ltb-true _ _ (every-at (λ x. ltb x (length c.args.novelty.now)) c.args.rows.now c.loop-i.i 0 c.requires (omega arith))

pub loop-i-preserved : goal.loop-i-preserved
loop-i-preserved c = (
  omega arith,
  rw c.prominence_of-sum.ensures (sym (map_sum_step (prominence c.args.novelty.now c.args.med) _
      c.args.rows.now c.loop-i.i (omega arith)) ∙ c.loop-i.invariant.1),
)

pub returns : goal.returns
returns c =
    sym (map_sum_end _ _ _ _ c.loop-i-test.false) ∙ c.loop-i.invariant.1
