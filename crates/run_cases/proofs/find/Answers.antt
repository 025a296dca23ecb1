use mathlib.Core.Path.{refl}
use native.Mathlib.Omega.{arith}
use Rattle.run_cases.proofs.Texts.{index_here, index_next, index_end}
use borrow.Author.Rules.{rules}
use Rattle.run_cases.proofs.find.Goals as goal

pub loop-i-init : goal.loop-i-init
loop-i-init c = refl

pub returns-then-text-i : goal.returns-then-text-i
returns-then-text-i c =
    let e = index_here c.args.mark c.args.text.now c.loop-i.i (omega arith) c.if-text-i.true in
    (search rules, omega (arith, e, c.loop-i.invariant))

pub loop-i-preserved : goal.loop-i-preserved
loop-i-preserved c =
    let e = index_next c.args.mark c.args.text.now c.loop-i.i (omega arith) c.if-text-i.false in
    omega (arith, e, c.loop-i.invariant)

pub returns : goal.returns
returns c =
    let e = index_end c.args.mark c.args.text.now c.loop-i.i c.loop-i-test.false in
    (search rules, omega (arith, e, c.loop-i.invariant))
