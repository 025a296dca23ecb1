use native.Mathlib.Omega.{arith}
use mathlib.Core.Path.{refl, sym, ◌∙◌}
use Rattle.feature_levels.proofs.Samples.{square-more, square_end}
use Rattle.feature_levels.proofs.squares_four.Goals as goal

pub loop-i-init : goal.loop-i-init
loop-i-init c = (omega arith, refl, refl, refl, refl)

pub wide-x-requires : goal.wide-x-requires
wide-x-requires c =
    (omega arith, c.requires.a_value.0)

pub wide-y-requires : goal.wide-y-requires
wide-y-requires c =
    (omega (arith, c.requires.b_len.0), c.requires.a_value.1)

pub wide-z-requires : goal.wide-z-requires
wide-z-requires c =
    (omega (arith, c.requires.b_len.1), c.requires.a_value.2)

pub wide-w-requires : goal.wide-w-requires
wide-w-requires c =
    (omega (arith, c.requires.b_len.2), c.requires.a_value.3)

pub loop-i-preserved : goal.loop-i-preserved
loop-i-preserved c =
    let e = c.requires.b_len in
    let i = c.loop-i.i in
    let v = c.loop-i.invariant in (
      omega arith,
      square-more c.args.a.now i _ _ _ (omega arith) c.wide-x.ensures v.1,
      square-more c.args.b.now i _ _ _ (omega (arith, e.0)) c.wide-y.ensures v.2,
      square-more c.args.c.now i _ _ _ (omega (arith, e.1)) c.wide-z.ensures v.3,
      square-more c.args.d.now i _ _ _ (omega (arith, e.2)) c.wide-w.ensures v.4,
    )

pub returns : goal.returns
returns c =
    let e = c.requires.b_len in
    let i = c.loop-i.i in
    let v = c.loop-i.invariant in
    let h = c.loop-i-test.false in (
      sym (square_end c.args.a.now i _ (omega arith)) ∙ v.1,
      sym (square_end c.args.b.now i _ (omega (arith, e.0))) ∙ v.2,
      sym (square_end c.args.c.now i _ (omega (arith, e.1))) ∙ v.3,
      sym (square_end c.args.d.now i _ (omega (arith, e.2))) ∙ v.4,
    )
