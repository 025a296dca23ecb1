use mathlib.Core.Path.{◌≡◌, refl, sym, ap, ◌∙◌}
use mathlib.Core.List.{List}
use Prim.Native.Nat.{◌+◌, zero-le}
use native.Mathlib.Omega.{arith}
use lib.ListN.{length}
use lib.Ieee.{Float, nan}
use Rattle.numbers.specs.Lists.{filled}
use Rattle.numbers.proofs.Tabs.{filled_none, filled-over, length-filled}
use Rattle.lags.specs.Lags.{lag_room}
use Rattle.lag_curves.specs.Curves.{clarity_from}
use borrow.Author.Rules.{rules}
use Rattle.lag_curves.proofs.fill_clarity.Goals as goal

pub returns-then-count-lt32 : goal.returns-then-count-lt32
returns-then-count-lt32 c = c.fill_eights.ensures

pub loop-i-init : goal.loop-i-init
loop-i-init c = (search rules, refl, sym (filled_none _ _ _))

pub fill_thirty_two-requires : goal.fill_thirty_two-requires
fill_thirty_two-requires c = let e = c.min-from.ensures in let v = c.loop-i.invariant in (omega arith, omega arith)

pub overflow_add-i : goal.overflow_add-i
overflow_add-i c = let e = c.min-from.ensures in omega arith

pub loop-i-smaller : goal.loop-i-smaller
loop-i-smaller c = let e = c.min-from.ensures in omega arith

pub loop-i-preserved : goal.loop-i-preserved
loop-i-preserved c =
    let e = c.min-from.ensures in
    let a = c.args in
    let v = c.loop-i.invariant in
    let i = c.loop-i.i in
    let from = c.min-from.result in
    let rule = clarity_from a.envelope.now a.mean a.ac0 a.min_lag in
    let was : List Float = a.clarity.now in
    let same = c.fill_thirty_two.ensures ∙ ap (λ (x : List Float). filled rule x from (from + 32)) v.2
    ∙ filled-over rule was 0 from i (from + 32) zero-le (omega arith) (omega arith) nan (omega arith) in
    (omega arith, ap length same ∙ length-filled rule was 0 (from + 32) zero-le (omega arith), same)

pub returns : goal.returns
returns c =
    let a = c.args in
    let v = c.loop-i.invariant in
    let all : c.loop-i.i ≡ lag_room a.min_lag a.max_lag = omega arith in
    v.2 ∙ ap (filled (clarity_from a.envelope.now a.mean a.ac0 a.min_lag) a.clarity.now 0) all
