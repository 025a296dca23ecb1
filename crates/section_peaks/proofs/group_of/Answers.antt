use mathlib.Core.Path.{refl, sym, ap, ◌∙◌}
use Prim.Native.Nat.{◌+◌, ◌-◌, ◌≤◌, ◌<◌}
use native.Mathlib.Omega.{arith}
use borrow.Author.Tests.{le-leb, lt-leb}
use lib.ListN.{length}
use Rattle.onsets.specs.Peaks.{bests}
use Rattle.section_peaks.specs.Steps.{peaks_from}
use Rattle.section_peaks.proofs.Walks.{kept_here, bests_join, bests_part, bests_end, better-most}
use Rattle.section_peaks.proofs.group_of.Goals as goal

pub loop-t-init : goal.loop-t-init
loop-t-init c =
    let g = c.args in
    let n = c.next_peak-t.ensures in (
      refl,
      omega (arith, n.from),
      omega (arith, n.from),
      c.requires.1,
      n.stands,
      ap (bests g.curve.now g.gap g.peak) (sym n.same)
          ∙ kept_here _ _ _ _ c.requires.1 c.requires.2,
    )

pub returns-then-t-best : goal.returns-then-t-best
returns-then-t-best c =
    let v = c.loop-t.invariant in
    let h : c.loop-t.t < length c.args.curve.now - 1 = omega arith in
    record {
      best_in = omega arith;
      past = v.1;
      stands = v.4;
      kept = sym v.5 ∙ bests_part _ _ _ _ _ h (v.4.peak h) (lt-leb _ _ c.if-t-best.true);
    }

pub loop-t-preserved : goal.loop-t-preserved
loop-t-preserved c =
    let v = c.loop-t.invariant in
    let g = c.args in
    let n = c.next_peak-t-in-loop-t.ensures in
    let h : c.loop-t.t < length g.curve.now - 1 = omega arith in
    let m : c.better_of-best.result ≤ c.loop-t.t = rw c.better_of-best.ensures (better-most g.curve.now c.loop-t.best c.loop-t.t (omega arith)) in (
      v.0,
      omega (arith, n.from),
      omega (arith, n.from),
      omega arith,
      n.stands,
      ap (bests g.curve.now g.gap c.better_of-best.result) (sym n.same)
          ∙ ap (λ x. bests g.curve.now g.gap x (peaks_from g.curve.now g.level (c.loop-t.t + 1))) c.better_of-best.ensures
          ∙ sym (bests_join g.curve.now g.level g.gap c.loop-t.best c.loop-t.t h (v.4.peak h) (le-leb _ _ c.if-t-best.false)) ∙ v.5,
    )

pub returns : goal.returns
returns c =
    let v = c.loop-t.invariant in
    record { best_in = omega arith; past = v.1; stands = v.4; kept = sym v.5 ∙ bests_end _ _ _ _ _ (omega arith) }
