use mathlib.Core.Path.{sym, ◌∙◌}
use Prim.Native.Nat.{suc, ◌≤◌}
use native.Mathlib.Omega.{arith}
use borrow.Author.Tests.{ltb-true, ltb-false}
use Rattle.floats.specs.TotalOrder.{key}
use Rattle.median.specs.Ranks.{key_at}
use Rattle.section_peaks.proofs.Cuts.{below-past, below_here, below_end}
use Rattle.section_peaks.proofs.at_most.Goals as goal

pub loop-x-init : goal.loop-x-init
loop-x-init c = (omega arith, omega arith)

pub loop-x-preserved-then-precedes : goal.loop-x-preserved-then-precedes
loop-x-preserved-then-precedes c =
    let e = below-past (suc (key c.args.level)) c.args.values.now c.loop-x.x-index (omega arith)
    (ltb-true _ _ (sym c.precedes.ensures ∙ c.if-precedes.true)) in
    (omega arith, omega (arith, e, c.loop-x.invariant.1))

pub loop-x-preserved : goal.loop-x-preserved
loop-x-preserved c =
    let h : key_at c.args.values.now c.loop-x.x-index ≤ key c.args.level = ltb-false _ _ (sym c.precedes.ensures ∙ c.if-precedes.false) in
    let e = below_here (suc (key c.args.level)) c.args.values.now c.loop-x.x-index (omega arith) (omega arith) in
    (omega arith, omega (arith, e, c.loop-x.invariant.1))

pub returns : goal.returns
returns c =
    omega (arith, below_end (suc (key c.args.level)) c.args.values.now c.loop-x.x-index c.loop-x-test.false, c.loop-x.invariant.1)
