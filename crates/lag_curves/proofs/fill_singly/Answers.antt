use mathlib.Core.Path.{◌≡◌, refl, sym, ap, ◌∙◌}
use Prim.Native.Nat.{◌+◌}
use native.Mathlib.Omega.{arith}
use lib.ListN.{length-set}
use lib.Ieee.{nan}
use Rattle.numbers.specs.Lists.{filled}
use Rattle.numbers.proofs.Tabs.{filled_none, filled-to}
use Rattle.lag_curves.specs.Curves.{clarity_at, clarity_from}
use borrow.Author.Rules.{rules}
use Rattle.lag_curves.proofs.fill_singly.Goals as goal

pub loop-i-init : goal.loop-i-init
loop-i-init c = (search rules, search rules, refl, sym (filled_none _ _ _))

pub loop-i-preserved : goal.loop-i-preserved
unfolding clarity_at
loop-i-preserved c =
    let a = c.args in
    let v = c.loop-i.invariant in
    let rule = clarity_from a.envelope.now a.mean a.ac0 a.min_lag in
    let e : c.clarity_of.result ≡ rule c.loop-i.i = c.clarity_of.ensures ∙ rw c.lag_sum.ensures in (
      omega arith,
      omega arith,
      simp length-set v.2,
      rw (e, v.3) (filled-to rule a.clarity.now a.from c.loop-i.i (c.loop-i.i + 1) v.0 nan (omega arith) refl),
    )

pub returns : goal.returns
returns c =
    let l = c.loop-i in
    let a = c.args in
    let e : l.i ≡ a.past = omega arith in
    l.invariant.3 ∙ ap (filled (clarity_from a.envelope.now a.mean a.ac0 a.min_lag) a.clarity.now a.from) e
