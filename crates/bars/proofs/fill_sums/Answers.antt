use mathlib.Core.Path.{◌≡◌, refl, sym, ap, ◌∙◌}
use Prim.Native.Nat.{◌+◌}
use native.Mathlib.Omega.{arith}
use borrow.Author.Rules.{rules}
use lib.ListN.{length-set}
use lib.Ieee.{nan}
use Rattle.numbers.specs.Lists.{filled}
use Rattle.numbers.proofs.Tabs.{filled_none, filled-to}
use Rattle.bars.specs.Downbeats.{phase_sum}
use Rattle.bars.proofs.fill_sums.Goals as goal

pub loop-phase-init : goal.loop-phase-init
loop-phase-init c = (search rules, refl, sym (filled_none _ _ _))

pub loop-phase-preserved : goal.loop-phase-preserved
loop-phase-preserved c =
    let a = c.args in
    let sum = phase_sum a.envelope.now a.beats.now a.meter in
    let v = c.loop-phase.invariant in (
      omega arith,
      simp length-set v.1,
      rw (c.phase_sum.ensures, v.2)
          (filled-to sum a.sums.now 0 c.loop-phase.phase (c.loop-phase.phase + 1) (omega arith) nan (omega arith) refl),
    )

pub returns : goal.returns
returns c =
    let l = c.loop-phase in
    let a = c.args in
    let e : l.phase ≡ a.meter = omega arith in
    l.invariant.2 ∙ ap (filled (phase_sum a.envelope.now a.beats.now a.meter) a.sums.now 0) e
