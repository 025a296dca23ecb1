use Rattle.std.proofs.Common.{◌<◌, true, false, refl, ap, ◌∙◌, arith}
use Rattle.lists.specs.declared.Best.{Best}
use Rattle.lists.specs.Greatest.{value_at, first_greatest}
use Rattle.lists.proofs.Greatest.{best, greatest_step, greatest_end}
use Rattle.lists.proofs.first_greatest.Goals.{else-top-s, then-top-s}
use Rattle.lists.proofs.first_greatest.Goals as goal

pub loop-t-init : goal.loop-t-init
loop-t-init c = (omega arith, refl)

pub loop-t-preserved : goal.loop-t-preserved
loop-t-preserved c =
    let a = c.args in
    let t = c.loop-t.t in
    let h : t < a.n = omega arith in
    let step = greatest_step (value_at a.values.now) t a.n c.loop-t.top c.if-top-s.top (value_at a.values.now t) c.loop-t.at c.if-top-s.at in
    elim c.if-top-s.branch [ then-top-s w ↦ (omega (arith, w.at-is), step true h refl w.if-top-s.true w.top-is w.at-is ∙ c.loop-t.invariant.1) | else-top-s w ↦ (omega (arith, w.at-is), step false h refl w.if-top-s.false w.top-is w.at-is ∙ c.loop-t.invariant.1) ]

pub returns : goal.returns
unfolding first_greatest
returns c =
    let a = c.args in (
      omega arith,
      ap (λ (b : Best). b.at)
          (greatest_end (value_at a.values.now) c.loop-t.t a.n (best c.loop-t.top c.loop-t.at) c.loop-t-test.false ∙ c.loop-t.invariant.1),
    )
