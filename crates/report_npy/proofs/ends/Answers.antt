use mathlib.Core.Path.{sym, ◌∙◌}
use native.Mathlib.Omega.{arith}
use borrow.Author.Tests.{ne_eqb}
use Rattle.report_npy.proofs.Endings.{ended-none, ended-space, ended_feed, ended_other}
use Rattle.report_npy.proofs.ends.Goals as goal

pub returns-then-x-eq10 : goal.returns-then-x-eq10
returns-then-x-eq10 c =
    let text = c.args.text.now in
    sym (c.loop-place.invariant ∙ ended_feed text c.loop-place.place (omega arith) c.if-x-eq10.true)

pub returns-else-x-eq10 : goal.returns-else-x-eq10
returns-else-x-eq10 c =
    let text = c.args.text.now in
    ne_eqb _ _ c.if-x-eq10.false ∙ sym (c.loop-place.invariant ∙ ended_other text c.loop-place.place (omega arith) c.if-x-ne32.true c.if-x-eq10.false)

pub loop-place-preserved : goal.loop-place-preserved
loop-place-preserved c =
    let text = c.args.text.now in
    c.loop-place.invariant ∙ ended-space text c.loop-place.place (omega arith) c.if-x-ne32.false

pub returns : goal.returns
returns c =
    let text = c.args.text.now in
    sym (c.loop-place.invariant ∙ ended-none text c.loop-place.place (omega arith))
