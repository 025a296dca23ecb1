use mathlib.Core.Path.{sym, ap, ◌∙◌}
use mathlib.Core.Bool.{Bool, ◌&&◌}
use Rattle.numbers.proofs.Tests.{and-true}
use Rattle.numbers.proofs.Everys.{every_step_1, every_end}
use Rattle.numbers.proofs.run_passes.Goals as goal

pub loop-x-init : goal.loop-x-init
loop-x-init g c p h = and-true _

pub loop-x-preserved : goal.loop-x-preserved
loop-x-preserved g c p h =
    let e = h _ _ c.test-fine.ensures ∙ ap p c.x-item.is in
    every_step_1 p _ c.loop-x.x-index _ _ c.loop-x-test.true e (c.loop-x.invariant p h)

pub returns : goal.returns
returns g c p h = sym (c.loop-x.invariant p h ∙ ap (λ (b : Bool). b && c.loop-x.fine) (every_end p _ _ c.loop-x-test.false))
