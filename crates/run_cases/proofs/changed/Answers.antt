use mathlib.Core.Logic.{⊎_elim}
use borrow.Author.Rules.{rules}
use native.Mathlib.Omega.{arith}
use lib.ListN.{length}
use Rattle.numbers.proofs.Tests.{lt_or_le}
use Rattle.run_cases.proofs.Curves.{differing_step, differing_old, differing-new}
use Rattle.run_cases.proofs.changed.Goals as goal

pub loop-i-init : goal.loop-i-init
loop-i-init c = (search rules, omega arith)

pub overflow_add-n : goal.overflow_add-n
overflow_add-n c = omega (arith, c.differ-n.ensures.1, c.loop-i.invariant.0)

pub loop-i-preserved : goal.loop-i-preserved
loop-i-preserved c = let a = c.args in
    let e = differing_step a.first a.past a.old.now a.new.now c.loop-i.i (omega arith) (omega arith) in
    (omega (arith, c.differ-n.ensures.1, c.loop-i.invariant.0), omega (arith, e, c.differ-n.ensures.0, c.loop-i.invariant.1))

pub returns : goal.returns
returns c = let a = c.args in
    ⊎_elim
    (λ h. omega (arith, differing_old a.first a.past a.old.now a.new.now c.loop-i.i (omega arith), c.loop-i.invariant.1))
    (λ h. omega (arith, differing-new a.first a.past a.old.now a.new.now c.loop-i.i (omega arith), c.loop-i.invariant.1))
    (lt_or_le (length a.old.now) (length a.new.now))
