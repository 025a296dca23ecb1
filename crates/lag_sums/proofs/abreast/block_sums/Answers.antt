use mathlib.Core.Path.{◌≡◌, refl, ap, ◌∙◌}
use native.Mathlib.Omega.{arith}
use Rattle.lag_sums.specs.Lanes.{thirty_two_sums}
use Rattle.lag_sums.proofs.Lanes.{thirty_two_none}
use borrow.Author.Rules.{rules}
use Rattle.lag_sums.proofs.abreast.block_sums.Goals as goal

pub loop-t-init : goal.loop-t-init
loop-t-init c =
    let a = c.args in
    (search rules, refl, thirty_two_none a.envelope.now a.mean a.lag c.eight_noughts-z.result c.eight_noughts-z.ensures)

pub block-s-requires : goal.block-s-requires
block-s-requires c = record { lag_in_bounds = omega arith; sums_value = c.loop-t.invariant.2 }

pub loop-t-preserved : goal.loop-t-preserved
loop-t-preserved c = (omega arith, omega arith, c.block-s.ensures)

pub returns : goal.returns
returns c =
    let l = c.loop-t in
    let a = c.args in
    let e : l.t ≡ a.past = omega arith in
    l.invariant.2 ∙ ap (thirty_two_sums a.envelope.now a.mean a.lag) e
