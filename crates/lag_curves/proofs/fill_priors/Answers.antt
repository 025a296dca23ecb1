use mathlib.Core.Path.{◌≡◌, refl, sym, ap, ◌∙◌}
use Prim.Native.Nat.{◌+◌}
use native.Mathlib.Omega.{arith}
use borrow.Author.Rules.{rules}
use lib.ListN.{length-set}
use lib.Ieee.{nan}
use Rattle.numbers.specs.Lists.{filled}
use Rattle.numbers.proofs.Tabs.{filled_none, filled-to}
use Rattle.lags.specs.Lags.{lag_room}
use Rattle.lag_curves.specs.Curves.{prior_from}
use Rattle.lag_curves.proofs.fill_priors.Goals as goal

pub loop-i-init : goal.loop-i-init
loop-i-init c = (search rules, refl, sym (filled_none _ _ _))

pub loop-i-preserved : goal.loop-i-preserved
loop-i-preserved c =
    let a = c.args in
    let v = c.loop-i.invariant in (
      omega arith,
      simp length-set v.1,
      rw (c.prior_at.ensures, v.2) (filled-to (prior_from a.rate a.min_lag) a.priors.now 0 c.loop-i.i (c.loop-i.i + 1)
          (omega arith) nan (omega arith) refl),
    )

pub returns : goal.returns
returns c =
    let l = c.loop-i in
    let a = c.args in
    let e : l.i ≡ lag_room a.min_lag a.max_lag = omega arith in
    l.invariant.2 ∙ ap (filled (prior_from a.rate a.min_lag) a.priors.now 0) e
