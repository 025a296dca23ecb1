use mathlib.Core.Path.{◌≡◌, refl, sym, ap, ◌∙◌}
use Prim.Native.Nat.{◌+◌}
use native.Mathlib.Omega.{arith}
use lib.ListN.{length, drop}
use Rattle.run_cases.specs.Texts.{parts_from}
use Rattle.run_cases.proofs.Texts.{from_first, from_mark, from_other, from_end}
use borrow.Author.Rules.{rules}
use Rattle.run_cases.proofs.start.Goals.{then-byte-mark, else-byte-mark}
use Rattle.run_cases.proofs.start.Goals as goal

pub loop-i-init : goal.loop-i-init
loop-i-init c = refl

pub returns-then-left-eq0 : goal.returns-then-left-eq0
returns-then-left-eq0 c = let s = c.args.text.now in
    let mark = c.args.mark in
    let rest = drop c.loop-i.i s in
    (search rules, sym (from_first mark rest) ∙ ap (parts_from mark rest) (sym c.if-left-eq0.true) ∙ c.loop-i.invariant)

pub loop-i-preserved : goal.loop-i-preserved
loop-i-preserved c = let s = c.args.text.now in
    let mark = c.args.mark in
    let i = c.loop-i.i in
    let left = c.loop-i.left in
    let some = c.if-left-eq0.false in
    elim c.if-byte-mark.branch [
      | then-byte-mark w ↦ ap (parts_from mark (drop (i + 1) s)) w.left-is ∙ sym (from_mark mark s i left (omega arith) some w.if-byte-mark.true) ∙ c.loop-i.invariant
      | else-byte-mark w ↦ ap (parts_from mark (drop (i + 1) s)) w.left-is ∙ sym (from_other mark s i left (omega arith) some w.if-byte-mark.false) ∙ c.loop-i.invariant
    ]

pub returns : goal.returns
returns c = let s = c.args.text.now in
    let at : length s ≡ c.loop-i.i = omega arith in
    (search rules, rw at (sym (from_end _ _ _ _ c.loop-i-test.false) ∙ c.loop-i.invariant))
