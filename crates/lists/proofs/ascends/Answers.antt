use Rattle.std.proofs.Common.{◌+◌, Bool, ◌&&◌, get_or, drop, sym, ap, ◌∙◌, arith, le-leb}
use borrow.Author.Tests.{lt-leb}
use Rattle.numbers.specs.Lists.{ascending}
use Rattle.numbers.proofs.Ascents.{ascending_step, ascending_end}
use Rattle.lists.proofs.ascends.Goals as goal

pub returns-then-entry-low : goal.returns-then-entry-low
returns-then-entry-low c =
    let s = c.args.list.now in
    let i = c.loop-x.x-index in
    let low = c.loop-x.low in
    sym (c.loop-x.invariant.1 ∙ ascending_step low s i (omega arith)
    ∙ ap (λ (t : Bool). t && ascending (get_or s i 0 + 1) (drop (i + 1) s)) (lt-leb low (get_or s i 0) c.if-entry-low.true))

pub loop-x-preserved : goal.loop-x-preserved
loop-x-preserved c =
    let s = c.args.list.now in
    let i = c.loop-x.x-index in
    let low = c.loop-x.low in (
      omega (arith, c.type_inv.list i),
      c.loop-x.invariant.1 ∙ ascending_step low s i (omega arith)
          ∙ ap (λ (t : Bool). t && ascending (get_or s i 0 + 1) (drop (i + 1) s)) (le-leb low (get_or s i 0) c.if-entry-low.false),
    )

pub returns : goal.returns
returns c = sym (c.loop-x.invariant.1 ∙ ascending_end c.loop-x.low _ _ c.loop-x-test.false)
