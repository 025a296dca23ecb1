use mathlib.Core.Path.{◌≡◌, refl, sym, ap, ◌∙◌}
use Prim.Native.Nat.{◌+◌, ◌<◌}
use native.Mathlib.Omega.{arith}
use lib.ListN.{get_or, length-set}
use lib.Ieee.{Float, nan}
use Rattle.numbers.specs.Rounded.{◌⊕◌, ◌⊗◌}
use Rattle.numbers.specs.Lists.{filled}
use Rattle.numbers.proofs.Tabs.{filled_none}
use Rattle.similarities.specs.Lanes.{lane_product}
use Rattle.similarities.proofs.Lanes.{grown_more}
use Rattle.similarities.proofs.add_products.Goals.{In-loop-j}
use Rattle.similarities.proofs.add_products.Goals as goal

at_most : (c : In-loop-j) → c.args.at + c.loop-j.j < 2048
at_most c = omega arith

pub loop-j-init : goal.loop-j-init
loop-j-init c = (omega arith, omega arith, c.requires.0, sym (filled_none _ _ _))

pub bounds-sums-j : goal.bounds-sums-j
bounds-sums-j c = c.loop-j-test.true

pub bounds-turned-at : goal.bounds-turned-at
bounds-turned-at c = at_most (goal.at.bounds-turned-at c).In-loop-j

pub loop-j-preserved : goal.loop-j-preserved
unfolding lane_product
loop-j-preserved c =
    let a = c.args in
    let m = c.requires.0 in (
      omega arith,
      omega arith,
      simp length-set c.loop-j.invariant.2,
      rw c.loop-j.invariant.3
          (grown_more (lane_product a.sums.now a.x a.turned.now a.at) a.sums.now 1 c.loop-j.j nan
          (λ (y : Float). y ⊕ a.x ⊗ get_or a.turned.now (a.at + c.loop-j.j) nan) (omega arith) (omega arith) refl),
    )

pub returns : goal.returns
returns c =
    let a = c.args in
    let e : c.loop-j.j ≡ 17 = omega arith in
    c.loop-j.invariant.3 ∙ ap (filled (lane_product a.sums.now a.x a.turned.now a.at) a.sums.now 1) e
