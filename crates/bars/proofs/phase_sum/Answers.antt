use mathlib.Core.Path.{refl, sym, ap, ◌∙◌}
use mathlib.Core.Bool.{true, false}
use Prim.Native.Nat.{◌<◌}
use borrow.Author.Tests.{eq-eqb, ne_eqb}
use native.Mathlib.Omega.{arith}
use lib.ListN.{length}
use lib.Ieee.{Float}
use Rattle.numbers.specs.Rounded.{◌⊕◌}
use Rattle.bars.specs.Downbeats.{beat_flux, phase_sum}
use Rattle.bars.proofs.Phases.{phase_sum_step, phase_sum_end}
use Rattle.bars.proofs.phase_sum.Goals.{then-i-meter, else-i-meter}
use Rattle.bars.proofs.phase_sum.Goals as goal

pub loop-i-init : goal.loop-i-init
loop-i-init c = (omega arith, refl)

pub loop-i-preserved : goal.loop-i-preserved
loop-i-preserved c =
    let a = c.args in
    let i = c.loop-i.i in
    let h : i < length a.beats.now = omega arith in
    let step = phase_sum_step a.meter a.phase (beat_flux a.envelope.now) c.loop-i.sum c.if-i-meter.sum a.beats.now i in (
      omega arith,
      elim c.if-i-meter.branch [
        | then-i-meter w ↦ step true h (eq-eqb _ _ w.if-i-meter.true) (w.sum-is ∙ ap (λ (x : Float). c.loop-i.sum ⊕ x) w.flux_at-sum.ensures)
        | else-i-meter w ↦ step false h (ne_eqb _ _ w.if-i-meter.false) w.sum-is
      ] ∙ c.loop-i.invariant.1,
    )

pub returns : goal.returns
unfolding phase_sum
returns c =
    let a = c.args in
    sym (phase_sum_end a.meter a.phase (beat_flux a.envelope.now) c.loop-i.sum a.beats.now c.loop-i.i c.loop-i-test.false) ∙ c.loop-i.invariant.1
