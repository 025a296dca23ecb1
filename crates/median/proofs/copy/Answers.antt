use Prim.Native.Nat.{◌<◌}
use mathlib.Core.Path.{refl, sym, ◌∙◌}
use native.Mathlib.Omega.{arith}
use lib.ListN.{length, get_or, length-set}
use lib.Ieee.{nan}
use Rattle.numbers.proofs.Tabs.{filled_none, filled_more}
use Rattle.median.proofs.Lent.{filled_by}
use Rattle.median.proofs.copy.Goals as goal

pub loop-i-init : goal.loop-i-init
loop-i-init c = (omega arith, sym (filled_none _ _ 0), refl)

pub offset_bounds-src-i : goal.offset_bounds-src-i
offset_bounds-src-i c = omega (arith, c.well_formed.0.1)

pub offset_bounds-dst-i : goal.offset_bounds-dst-i
offset_bounds-dst-i c = omega (arith, c.well_formed.0.1)

pub loop-i-preserved : goal.loop-i-preserved
loop-i-preserved c =
    let v = c.loop-i.invariant in
    let l : c.loop-i.i < length c.args.dst.now = omega (arith, c.requires) in
    (omega arith, rw v.1 (filled_more (λ k. get_or c.args.src.now k nan) _ 0 c.loop-i.i (omega arith) nan l), simp length-set v.2)

pub shape_of-dst : goal.shape_of-dst
shape_of-dst c = c.loop-i.invariant.2

pub returns : goal.returns
returns c =
    let v = c.loop-i.invariant in
    v.1 ∙ filled_by _ _ _ _ (omega (arith, v.0, c.loop-i-test.false)) (λ k l. refl)
