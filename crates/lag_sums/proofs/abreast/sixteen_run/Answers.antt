use mathlib.Core.Path.{refl, sym, ap, ◌∙◌}
use Prim.Native.Nat.{◌+◌}
use native.Mathlib.Nat.{add-zero}
use native.Mathlib.Omega.{arith}
use Rattle.lag_sums.specs.Lanes.{eight_run}
use Rattle.lag_sums.proofs.Lanes.{run_two, run_end}
use borrow.Author.Rules.{rules}
use Rattle.lag_sums.proofs.abreast.sixteen_run.Goals as goal

pub loop-t-init : goal.loop-t-init
loop-t-init c =
    let a = c.args in (
      search rules,
      refl,
      ap (eight_run a.low a.times.now a.later.now) (sym (add-zero a.at)),
      ap (eight_run a.high a.times.now a.later.now) (sym (add-zero (a.at + 8))),
    )

pub loop-t-preserved : goal.loop-t-preserved
loop-t-preserved c =
    let a = c.args in
    let v = a.times.now in
    let y = a.later.now in
    let t = c.loop-t.t in (
      omega arith,
      omega arith,
      c.loop-t.invariant.2 ∙ run_two c.loop-t.s c.two_more-s.result v y a.at t (omega arith) c.two_more-s.ensures,
      c.loop-t.invariant.3 ∙ run_two c.loop-t.r c.two_more-r.result v y (a.at + 8) t (omega arith) c.two_more-r.ensures,
    )

pub returns : goal.returns
returns c =
    let l = c.loop-t in
    let a = c.args in
    let v = a.times.now in
    let y = a.later.now in
    let over = c.loop-t-test.false in
    (sym (l.invariant.2 ∙ run_end l.s v y l.t (a.at + l.t) over), sym (l.invariant.3 ∙ run_end l.r v y l.t (a.at + 8 + l.t) over))
