use mathlib.Core.Path.{◌≡◌}
use Prim.Native.Nat.{◌<◌}
use native.Mathlib.Omega.{arith}
use Rattle.roots.proofs.Whole.{digit_one, digit_zero, digits_end}
use Rattle.roots.proofs.root_by_digits.Goals.{else-root-t, then-root-t}
use Rattle.roots.proofs.root_by_digits.Goals as goal

pub loop-i-preserved : goal.loop-i-preserved
loop-i-preserved c =
    let l : c.loop-i.i < 54 = omega arith in
    elim c.if-root-t.branch [ then-root-t w ↦ rw (w.rest-is, w.root-is) (digit_one _ _ _ _ _ c.loop-i.invariant l w.if-root-t.true) | else-root-t w ↦ rw (w.rest-is, w.root-is) (digit_zero _ _ _ _ _ c.loop-i.invariant l w.if-root-t.false) ]

pub returns : goal.returns
returns c = let e : c.loop-i.i ≡ 54 = omega arith in digits_end _ _ _ _ (rw e at c.loop-i.invariant)
