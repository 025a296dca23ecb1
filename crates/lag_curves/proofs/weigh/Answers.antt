use mathlib.Core.Path.{◌≡◌, refl, sym, ap, ◌∙◌}
use Prim.Native.Nat.{◌+◌}
use native.Mathlib.Omega.{arith}
use borrow.Author.Rules.{rules}
use lib.ListN.{length-set}
use lib.Ieee.{nan}
use Rattle.numbers.specs.Lists.{filled}
use Rattle.numbers.proofs.Tabs.{filled_none, filled-to}
use Rattle.lag_curves.specs.Curves.{weighted_by}
use Rattle.lag_curves.proofs.weigh.Goals as goal

pub loop-i-init : goal.loop-i-init
loop-i-init c = (search rules, refl, sym (filled_none _ _ _))

pub loop-i-preserved : goal.loop-i-preserved
loop-i-preserved c =
    let a = c.args in
    let v = c.loop-i.invariant in (
      omega arith,
      simp length-set v.1,
      rw v.2 (filled-to (weighted_by a.clarity.now a.priors.now) a.weight.now 0 c.loop-i.i (c.loop-i.i + 1) (omega arith) nan
          (omega arith) refl),
    )

pub returns : goal.returns
returns c =
    let l = c.loop-i in
    let a = c.args in
    let e : l.i ≡ a.count = omega arith in
    l.invariant.2 ∙ ap (filled (weighted_by a.clarity.now a.priors.now) a.weight.now 0) e
