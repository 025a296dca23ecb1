use mathlib.Core.Path.{◌≡◌, refl, sym, ap, ◌∙◌}
use Prim.Native.Nat.{◌+◌, ◌-◌, ◌*◌, ◌/◌}
use native.Mathlib.Nat.{add-zero}
use native.Mathlib.Omega.{arith}
use lib.ListN.{length, length-set}
use lib.Ieee.{nan}
use Rattle.numbers.specs.Lists.{filled}
use Rattle.numbers.proofs.Tabs.{filled_none, filled-to}
use Rattle.lag_curves.specs.Curves.{clarity_at, clarity_from}
use Rattle.lag_sums.proofs.Lanes.{eight_at}
use borrow.Author.Rules.{rules}
use Rattle.lag_curves.proofs.fill_eight.Goals as goal

pub eight_sums-s-requires : goal.eight_sums-s-requires
eight_sums-s-requires c = record { from_le_past = (omega arith, omega arith, omega arith); sums_value = c.requires.below_value }

pub loop-j-init : goal.loop-j-init
loop-j-init c =
    let a = c.args in (
      search rules,
      refl,
      sym (rw (add-zero a.from) (filled_none (clarity_from a.envelope.now a.mean a.ac0 a.min_lag)
          a.clarity.now a.from)),
    )

pub lag_rest-sum-requires : goal.lag_rest-sum-requires
lag_rest-sum-requires c =
    let a = c.args in
    let lag = a.min_lag + a.from in
    let past = a.t + (length a.envelope.now - lag - 7 - a.t) / 2 * 2 in (
      omega arith,
      eight_at a.envelope.now a.mean lag past c.eight_sums-s.result c.eight_sums-s.ensures c.loop-j.j (omega arith),
    )

pub loop-j-preserved : goal.loop-j-preserved
unfolding clarity_at
loop-j-preserved c =
    let a = c.args in
    let v = c.loop-j.invariant in
    let at = a.from + c.loop-j.j in
    let rule = clarity_from a.envelope.now a.mean a.ac0 a.min_lag in
    let slot : a.min_lag + a.from + c.loop-j.j ≡ a.min_lag + at = omega arith in
    let e : c.clarity_of.result ≡ rule at = c.clarity_of.ensures
    ∙ rw c.lag_rest-sum.ensures (ap (clarity_at a.envelope.now a.mean a.ac0) slot) in (
      omega arith,
      simp length-set v.1,
      rw (e, v.2) (filled-to rule a.clarity.now a.from at (a.from + (c.loop-j.j + 1)) (omega arith) nan (omega arith) (omega arith)),
    )

pub returns : goal.returns
returns c =
    let l = c.loop-j in
    let a = c.args in
    let e : a.from + l.j ≡ a.from + 8 = omega arith in
    l.invariant.2 ∙ ap (filled (clarity_from a.envelope.now a.mean a.ac0 a.min_lag) a.clarity.now a.from) e
