use native.Mathlib.Omega.{arith}
use mathlib.Core.Path.{refl, sym, ◌∙◌}
use Rattle.feature_levels.proofs.Samples.{square-more, square_end}
use Rattle.feature_levels.proofs.squares.Goals as goal

pub loop-i-init : goal.loop-i-init
loop-i-init c = (omega arith, refl)

pub wide-x-requires : goal.wide-x-requires
wide-x-requires c = (omega arith, c.requires)

pub loop-i-preserved : goal.loop-i-preserved
loop-i-preserved c =
    (omega arith, square-more c.args.s.now c.loop-i.i _ _ _ (omega arith) c.wide-x.ensures c.loop-i.invariant.1)

pub returns : goal.returns
returns c =
    sym (square_end c.args.s.now c.loop-i.i _ c.loop-i-test.false) ∙ c.loop-i.invariant.1
