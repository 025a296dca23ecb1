use mathlib.Core.Path.{refl}
use Prim.Native.Nat.{◌-◌, ◌<◌}
use native.Mathlib.Omega.{arith}
use lib.ListN.{length, length-set}
use Rattle.onsets.specs.Peaks.{at}
use Rattle.section_peaks.proofs.Walks.{kept_end, kept_next, sofar_start, sofar_more, sofar_end}
use Rattle.section_peaks.proofs.note_values.Goals as goal

pub loop-t-init : goal.loop-t-init
loop-t-init c =
    let n = c.next_peak-t.ensures in
    (c.saturating_sub-last.ensures, omega (arith, n.from), refl, n.stands, rw (← kept_next _ _ _ _ _ n.same) (sofar_start _ _))

pub group_of-group-requires : goal.group_of-group-requires
group_of-group-requires c =
    let v = c.loop-t.invariant in
    let h : c.loop-t.t < length c.args.curve.now - 1 = omega arith in
    (omega arith, h, v.3.peak h)

pub bounds-curve-best : goal.bounds-curve-best
bounds-curve-best c = omega (arith, c.group_of-group.ensures.best_in)

pub loop-t-smaller : goal.loop-t-smaller
loop-t-smaller c = omega (arith, c.group_of-group.ensures.past)

pub loop-t-preserved : goal.loop-t-preserved
loop-t-preserved c =
    let g = c.group_of-group.ensures in
    let v = c.loop-t.invariant in
    (v.0, omega (arith, g.past), simp length-set v.2, g.stands, sofar_more _ (omega arith) (rw g.kept at v.4))

pub returns : goal.returns
returns c =
    let v = c.loop-t.invariant in
    let g = c.args in
    let none = kept_end g.curve.now g.level g.gap c.loop-t.t (omega arith) in
    let e = sofar_end (rw none at v.4) in
    record { count_is = e.0; slots_are = e.1 }
