use mathlib.Core.Path.{refl, sym, ◌∙◌}
use Prim.Native.Nat.{◌-◌, ◌<◌}
use native.Mathlib.Omega.{arith}
use borrow.Author.Tests.{not-true, not-false}
use lib.ListN.{length, length-set}
use Rattle.floats.specs.TotalOrder.{key}
use Rattle.section_peaks.specs.Steps.{kept_from}
use Rattle.section_peaks.proofs.Cuts.{chosen_none, chosen-taken, chosen_left}
use Rattle.section_peaks.proofs.Walks.{kept_end, kept_next, sofar_start, sofar_more, sofar_end}
use mathlib.Core.Path.{ap}
use mathlib.Core.Bool.{not}
use Rattle.section_peaks.proofs.list_chosen.Goals as goal

pub loop-t-init : goal.loop-t-init
loop-t-init c =
    let n = c.next_peak-t.ensures in
    (c.saturating_sub-last.ensures, omega (arith, n.from), refl, n.stands, rw (← kept_next _ _ _ _ _ n.same) (sofar_start _ _))

pub group_of-group-requires : goal.group_of-group-requires
group_of-group-requires c =
    let v = c.loop-t.invariant in
    let h : c.loop-t.t < length c.args.curve.now - 1 = omega arith in
    (omega arith, h, v.3.peak h)

pub bounds-curve-best : goal.bounds-curve-best
bounds-curve-best c = omega (arith, c.group_of-group.ensures.best_in)

pub loop-t-smaller-then-not-verdict : goal.loop-t-smaller-then-not-verdict
loop-t-smaller-then-not-verdict c = omega (arith, c.group_of-group.ensures.past)

pub loop-t-preserved-then-not-verdict : goal.loop-t-preserved-then-not-verdict
loop-t-preserved-then-not-verdict c =
    let g = c.group_of-group.ensures in
    let v = c.loop-t.invariant in
    let a = c.args in
    let curve = a.curve.now in
    let left = chosen_left curve (key a.cut.level) c.loop-t.spare c.group_of-group.result.best
    (kept_from curve a.level a.gap c.group_of-group.result.next) (sym c.judge-verdict.ensures.taken_is ∙ not-true _ c.if-not-verdict.true) in (
      v.0,
      omega (arith, g.past),
      v.2,
      g.stands,
      rw c.judge-verdict.ensures.spared_is (rw left at (rw g.kept at v.4)),
    )

pub overflow_cast-rows : goal.overflow_cast-rows
overflow_cast-rows c = omega (arith, c.group_of-group.ensures.best_in)

pub loop-t-smaller : goal.loop-t-smaller
loop-t-smaller c = omega (arith, c.group_of-group.ensures.past)

pub loop-t-preserved : goal.loop-t-preserved
loop-t-preserved c =
    let g = c.group_of-group.ensures in
    let v = c.loop-t.invariant in
    let a = c.args in
    let curve = a.curve.now in
    let more = chosen-taken curve (key a.cut.level) c.loop-t.spare c.group_of-group.result.best
    (kept_from curve a.level a.gap c.group_of-group.result.next) (sym c.judge-verdict.ensures.taken_is ∙ not-false _ c.if-not-verdict.false) in (
      v.0,
      omega (arith, g.past),
      simp length-set v.2,
      g.stands,
      rw c.judge-verdict.ensures.spared_is (sofar_more _ (omega (arith, c.requires.1)) (rw more at (rw g.kept at v.4))),
    )

pub returns : goal.returns
returns c =
    let v = c.loop-t.invariant in
    let g = c.args in
    let none = kept_end g.curve.now g.level g.gap c.loop-t.t (omega arith) in
    let e = sofar_end (rw (none, chosen_none) at v.4) in
    record { count_is = e.0; frames_are = e.1 }
