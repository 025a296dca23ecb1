use mathlib.Core.Path.{refl, sym, ◌∙◌}
use native.Mathlib.Omega.{arith}
use borrow.Author.Tests.{le-leb, lt-leb}
use lib.Dec.{leb}
use Rattle.numbers.proofs.Everys.{every_step, every_end}
use Rattle.rooms.proofs.all_hold.Goals as goal

pub loop-i-init : goal.loop-i-init
loop-i-init c = (omega arith, refl)

pub returns-then-lengths-i : goal.returns-then-lengths-i
returns-then-lengths-i c =
    let a = c.args in
    sym (c.loop-i.invariant.1 ∙ every_step (leb a.slots) a.lengths.now c.loop-i.i 0 (omega arith) ∙ simp (lt-leb _ _ c.if-lengths-i.true))

pub loop-i-preserved : goal.loop-i-preserved
loop-i-preserved c =
    let a = c.args in (
      omega arith,
      c.loop-i.invariant.1 ∙ every_step (leb a.slots) a.lengths.now c.loop-i.i 0 (omega arith) ∙ simp (le-leb _ _ c.if-lengths-i.false),
    )

pub returns : goal.returns
returns c =
    sym (c.loop-i.invariant.1 ∙ every_end (leb c.args.slots) _ _ c.loop-i-test.false)
