use mathlib.Core.Path.{refl, sym, ◌∙◌}
use native.Mathlib.Omega.{arith}
use Rattle.row_pairs.specs.Pairs.{dot_of}
use Rattle.row_pairs.proofs.Slots.{dot_next, dot_end}
use Rattle.row_pairs.proofs.dot.Goals as goal

pub loop-k-init : goal.loop-k-init
unfolding dot_of
loop-k-init c = (omega arith, refl)

pub loop-k-preserved : goal.loop-k-preserved
loop-k-preserved c =
    let a = c.args in
    (omega arith, sym (dot_next c.loop-k.sum a.a.now a.b.now c.loop-k.k (omega arith) (omega arith)) ∙ c.loop-k.invariant.1)

pub returns : goal.returns
returns c =
    let a = c.args in
    sym (dot_end c.loop-k.sum a.a.now a.b.now c.loop-k.k (omega arith)) ∙ c.loop-k.invariant.1
