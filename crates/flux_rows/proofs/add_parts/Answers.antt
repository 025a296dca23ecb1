use mathlib.Core.Path.{refl, sym, ◌∙◌}
use native.Mathlib.Omega.{arith}
use Rattle.numbers.proofs.Sums.{sum_step, sum_end}
use Rattle.flux_rows.proofs.add_parts.Goals as goal

pub loop-k-init : goal.loop-k-init
loop-k-init c = (omega arith, refl, refl, refl, refl)

pub loop-k-preserved : goal.loop-k-preserved
loop-k-preserved c =
    let g = c.args in
    let o = c.requires in
    let k = c.loop-k.k in
    let v = c.loop-k.invariant in (
      omega arith,
      sym (sum_step _ g.a.now k (omega arith)) ∙ v.1,
      sym (sum_step _ g.b.now k (omega (arith, o.0))) ∙ v.2,
      sym (sum_step _ g.c.now k (omega (arith, o.1))) ∙ v.3,
      sym (sum_step _ g.d.now k (omega (arith, o.2))) ∙ v.4,
    )

pub returns : goal.returns
returns c =
    let g = c.args in
    let o = c.requires in
    let k = c.loop-k.k in
    let v = c.loop-k.invariant in (
      sym (sum_end _ g.a.now k (omega arith)) ∙ v.1,
      sym (sum_end _ g.b.now k (omega (arith, o.0))) ∙ v.2,
      sym (sum_end _ g.c.now k (omega (arith, o.1))) ∙ v.3,
      sym (sum_end _ g.d.now k (omega (arith, o.2))) ∙ v.4,
    )
