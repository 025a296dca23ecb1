use mathlib.Core.Path.{◌≡◌, refl, ap, ◌∙◌}
use Prim.Native.Nat.{◌+◌, ◌-◌}
use borrow.Author.Rules.{rules}
use native.Mathlib.Omega.{arith}
use lib.ListN.{length}
use Rattle.lag_sums.specs.Sums.{lag_sum}
use Rattle.lag_sums.proofs.Products.{sum_to, product_next}
use Rattle.lag_sums.proofs.lag_rest.Goals as goal

pub loop-t-init : goal.loop-t-init
loop-t-init c = (omega arith, c.requires.1)

pub loop-t-preserved : goal.loop-t-preserved
loop-t-preserved c =
    let l = c.loop-t in
    let a = c.args in
    (search rules, rw l.invariant.1 (product_next a.envelope.now a.mean a.lag l.t (l.t + a.lag) refl))

pub returns : goal.returns
unfolding lag_sum
returns c =
    let l = c.loop-t in
    let a = c.args in
    let e : l.t ≡ length a.envelope.now - a.lag = omega arith in
    l.invariant.1 ∙ ap (sum_to a.envelope.now a.mean a.lag) e
