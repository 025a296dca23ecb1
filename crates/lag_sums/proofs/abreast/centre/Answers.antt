use mathlib.Core.Path.{◌≡◌, refl, sym, ap, ◌∙◌}
use Prim.Native.Nat.{◌+◌}
use native.Mathlib.Omega.{arith}
use lib.ListN.{length, length-set}
use lib.Ieee.{nan}
use Rattle.numbers.specs.Lists.{filled}
use Rattle.numbers.proofs.Tabs.{filled_none, filled-to, filled-all}
use Rattle.lag_sums.specs.Lanes.{centred_from}
use borrow.Author.Rules.{rules}
use Rattle.lag_sums.proofs.abreast.centre.Goals as goal

pub loop-i-init : goal.loop-i-init
loop-i-init c = (search rules, refl, sym (filled_none _ _ _))

pub loop-i-preserved : goal.loop-i-preserved
loop-i-preserved c =
    let a = c.args in
    let v = c.loop-i.invariant in (
      omega arith,
      simp length-set v.1,
      rw v.2 (filled-to (centred_from a.envelope.now a.mean a.from) a.out.now 0 c.loop-i.i (c.loop-i.i + 1) (omega arith) nan
          (omega arith) refl),
    )

pub returns : goal.returns
returns c =
    let l = c.loop-i in
    let a = c.args in
    let rule = centred_from a.envelope.now a.mean a.from in
    let e : l.i ≡ length a.out.now = omega arith in
    l.invariant.2 ∙ ap (filled rule a.out.now 0) e ∙ filled-all rule a.out.now (length a.out.now) refl
