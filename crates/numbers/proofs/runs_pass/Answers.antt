use mathlib.Core.Path.{refl, ap, ◌∙◌}
use native.Mathlib.Omega.{arith}
use Rattle.numbers.proofs.Everys.{every_step_4, every_end_4}
use Rattle.numbers.proofs.runs_pass.Goals as goal

pub loop-i-init : goal.loop-i-init
loop-i-init g c p h = refl

pub loop-i-preserved : goal.loop-i-preserved
loop-i-preserved g k p h =
    let ea = h _ _ k.test.ensures ∙ ap p k.index-a-i.is in
    let eb = h _ _ k.test-in-loop-i.ensures ∙ ap p k.index-b-i.is in
    let ec = h _ _ k.test-in-loop-i-2.ensures ∙ ap p k.index-c-i.is in
    let ed = h _ _ k.test-in-loop-i-3.ensures ∙ ap p k.index-d-i.is in
    every_step_4 p _ _ _ _ k.loop-i.i _ _ _ _ _ k.loop-i-test.true (omega arith) (omega arith) (omega arith) ea eb ec ed (k.loop-i.invariant p h)

pub returns : goal.returns
returns g k p h =
    every_end_4 p _ _ _ _ k.loop-i.i _ k.loop-i-test.false (omega arith) (omega arith) (omega arith) (k.loop-i.invariant p h)
