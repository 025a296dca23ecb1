use mathlib.Core.Path.{refl, ap, ◌∙◌}
use native.Mathlib.Numerals.{add-one}
use native.Mathlib.Omega.{arith}
use lib.ListN.{length, take}
use Rattle.run_cases.specs.Curves.{spelled_in}
use Rattle.run_cases.proofs.Curves.{spelled_length, spelled_step, spelled_end}
use Rattle.run_cases.proofs.spell.Goals as goal

pub loop-i-init : goal.loop-i-init
unfolding spelled_in
loop-i-init c = refl

pub bounds-curve-i : goal.bounds-curve-i
bounds-curve-i c = let a = c.args in
    omega (arith, ap length c.loop-i.invariant, spelled_length (take c.loop-i.i a.text.now) a.curve.now)

pub loop-i-preserved : goal.loop-i-preserved
loop-i-preserved c = let a = c.args in
    let s = a.text.now in
    let i = c.loop-i.i in
    rw (add-one, c.loop-i.invariant, c.value.ensures) (spelled_step s a.curve.now i (omega arith) (omega arith))

pub shape_of-curve : goal.shape_of-curve
shape_of-curve c = ap length c.loop-i.invariant ∙ spelled_length _ _

pub returns : goal.returns
returns c = let a = c.args in
    c.loop-i.invariant ∙ spelled_end a.text.now a.curve.now c.loop-i.i (omega arith)
