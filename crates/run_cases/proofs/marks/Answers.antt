use native.Mathlib.Omega.{arith}
use Rattle.run_cases.proofs.Texts.{marks_mark, marks_other, marks_end}
use borrow.Author.Rules.{rules}
use Rattle.run_cases.proofs.marks.Goals.{then-byte-mark, else-byte-mark}
use Rattle.run_cases.proofs.marks.Goals as goal

pub loop-byte-init : goal.loop-byte-init
loop-byte-init c = (search rules, omega arith)

pub loop-byte-preserved : goal.loop-byte-preserved
loop-byte-preserved c = let s = c.args.text.now in
    let mark = c.args.mark in
    let i = c.loop-byte.byte-index in
    elim c.if-byte-mark.branch [
      | then-byte-mark w ↦ (let e = marks_mark mark s i (omega arith) w.if-byte-mark.true in (omega arith, omega arith))
      | else-byte-mark w ↦ (let e = marks_other mark s i (omega arith) w.if-byte-mark.false in (omega arith, omega arith))
    ]

pub returns : goal.returns
returns c = omega (arith, marks_end c.args.mark c.args.text.now c.loop-byte.byte-index c.loop-byte-test.false, c.loop-byte.invariant.1)
