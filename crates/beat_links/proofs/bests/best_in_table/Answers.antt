use mathlib.Core.Path.{refl, ◌∙◌}
use mathlib.Core.Bool.{true, false}
use Prim.Native.Nat.{◌<◌}
use native.Mathlib.Omega.{arith}
use Rattle.beat_links.specs.Inner.{tabled}
use Rattle.lists.proofs.Greatest.{best, greatest_step, greatest_end}
use Rattle.beat_links.proofs.bests.best_in_table.Goals.{else-value-c, then-value-c}
use Rattle.beat_links.proofs.bests.best_in_table.Goals as goal

pub loop-u-init : goal.loop-u-init
loop-u-init c = (omega arith, refl)

pub loop-u-preserved : goal.loop-u-preserved
loop-u-preserved c =
    let k = c.tabled_at-c in
    let a = c.args in
    let h : c.loop-u.u < a.end = omega arith in
    let step =
    greatest_step (tabled a.table.now a.score.now a.first a.lo) c.loop-u.u a.end c.loop-u.value c.if-value-c.value k.result
    c.loop-u.at c.if-value-c.at
    in (
      omega arith,
      elim c.if-value-c.branch [ then-value-c w ↦ step true h k.ensures w.if-value-c.true w.value-is w.at-is | else-value-c w ↦ step false h k.ensures w.if-value-c.false w.value-is w.at-is ]
          ∙ c.loop-u.invariant.1,
    )

pub returns : goal.returns
returns c =
    let a = c.args in
    greatest_end (tabled a.table.now a.score.now a.first a.lo) c.loop-u.u a.end (best c.loop-u.value c.loop-u.at)
    c.loop-u-test.false ∙ c.loop-u.invariant.1
