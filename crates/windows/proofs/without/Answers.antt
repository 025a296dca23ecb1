use mathlib.Core.Path.{◌≡◌, sym, ap, ◌∙◌}
use Prim.Native.Nat.{zero-le}
use native.Mathlib.Omega.{arith}
use lib.ListN.{length-set}
use lib.Ieee.{nan}
use Rattle.numbers.specs.Lists.{filled}
use Rattle.numbers.proofs.Tabs.{filled_none, filled_more, filled-all}
use Rattle.windows.specs.Windows.{without_at, without}
use Rattle.windows.proofs.without.Goals as goal

pub loop-i-init : goal.loop-i-init
loop-i-init c = (omega arith, c.requires, sym (filled_none _ _ _))

pub kept-requires : goal.kept-requires
kept-requires c = tt

pub loop-i-preserved : goal.loop-i-preserved
unfolding without_at
loop-i-preserved c =
    let v = c.loop-i.invariant in
    let n = c.requires in
    (omega arith, simp length-set v.1, rw (v.2, c.kept.ensures) (filled_more _ _ _ _ zero-le nan (omega (arith, n))))

pub returns : goal.returns
unfolding without
returns c =
    let a = c.args in
    let v = c.loop-i.invariant in
    let e : c.loop-i.i ≡ 20 = omega arith in
    let f = without_at a.s.now a.o in
    v.2 ∙ ap (filled f a.rest.now 0) e ∙ filled-all f a.rest.now 20 c.requires
