use Rattle.std.proofs.Common.{sym, ◌∙◌, arith, le-leb}
use borrow.Author.Tests.{lt-leb}
use Rattle.numbers.proofs.Everys.{every_step, every_end}
use Rattle.numbers.specs.Limits.{at_most}
use Rattle.lists.proofs.all_at_most.Goals as goal

pub returns-then-x-most : goal.returns-then-x-most
returns-then-x-most c =
    sym (c.loop-x.invariant ∙ every_step (at_most c.args.most) c.args.list.now c.loop-x.x-index 0 (omega arith)
    ∙ simp (lt-leb _ _ c.if-x-most.true))

pub loop-x-preserved : goal.loop-x-preserved
loop-x-preserved c =
    c.loop-x.invariant ∙ every_step (at_most c.args.most) c.args.list.now c.loop-x.x-index 0 (omega arith) ∙ simp (le-leb _ _ c.if-x-most.false)

pub returns : goal.returns
returns c = sym (c.loop-x.invariant ∙ every_end (at_most c.args.most) _ _ c.loop-x-test.false)
