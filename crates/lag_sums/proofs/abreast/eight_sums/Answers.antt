use mathlib.Core.Path.{◌≡◌, ap, ◌∙◌}
use native.Mathlib.Omega.{arith}
use Rattle.lag_sums.specs.Lanes.{eight_sums}
use Rattle.lag_sums.proofs.Lanes.{eight_two}
use borrow.Author.Rules.{rules}
use Rattle.lag_sums.proofs.abreast.eight_sums.Goals as goal

pub loop-t-init : goal.loop-t-init
loop-t-init c = (search rules, search rules, c.requires.sums_value)

pub loop-t-preserved : goal.loop-t-preserved
loop-t-preserved c =
    let a = c.args in (
      omega arith,
      omega arith,
      eight_two a.envelope.now a.mean a.lag c.loop-t.t c.loop-t.s c.eight_more_centred-s.result c.eight_more_centred-s-in-loop-t.result
          c.loop-t.invariant.2 c.eight_more_centred-s.ensures
          c.eight_more_centred-s-in-loop-t.ensures,
    )

pub returns : goal.returns
returns c =
    let l = c.loop-t in
    let a = c.args in
    let e : l.t ≡ a.past = omega arith in
    l.invariant.2 ∙ ap (eight_sums a.envelope.now a.mean a.lag) e
