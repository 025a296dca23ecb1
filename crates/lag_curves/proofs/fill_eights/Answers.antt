use mathlib.Core.Path.{refl, sym, ◌∙◌}
use Prim.Native.Nat.{◌+◌}
use native.Mathlib.Omega.{arith}
use Rattle.numbers.proofs.Tabs.{filled_none}
use Rattle.lag_curves.specs.Curves.{clarity_from}
use Rattle.lag_curves.proofs.Joins.{joined, joined_length}
use Rattle.lag_sums.proofs.Lanes.{eight_none}
use borrow.Author.Rules.{rules}
use Rattle.lag_curves.proofs.fill_eights.Goals as goal

pub loop-i-init : goal.loop-i-init
loop-i-init c = (search rules, search rules, refl, sym (filled_none _ _ _))

pub fill_eight-requires : goal.fill_eight-requires
fill_eight-requires c =
    let a = c.args in
    record { from_in_bounds = (omega arith, omega arith, omega arith); below_value = c.eight_noughts-z.ensures ∙ eight_none a.envelope.now a.mean (a.min_lag + c.loop-i.i) }

pub loop-i-preserved : goal.loop-i-preserved
loop-i-preserved c =
    let a = c.args in
    let v = c.loop-i.invariant in
    let i = c.loop-i.i in
    let rule = clarity_from a.envelope.now a.mean a.ac0 a.min_lag in (
      omega arith,
      omega arith,
      joined_length rule a.clarity.now _ _ a.from i (i + 8) (i + 8) v.0 (omega arith) refl (omega arith) v.3 c.fill_eight.ensures,
      joined rule a.clarity.now _ _ a.from i (i + 8) (i + 8) v.0 (omega arith) refl (omega arith) v.3 c.fill_eight.ensures,
    )

pub returns : goal.returns
returns c =
    let a = c.args in
    let v = c.loop-i.invariant in
    joined (clarity_from a.envelope.now a.mean a.ac0 a.min_lag) a.clarity.now _ _ a.from c.loop-i.i a.past a.past v.0
    v.1 refl (omega arith) v.3 c.fill_singly.ensures
