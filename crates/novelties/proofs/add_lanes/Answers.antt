use mathlib.Core.Path.{◌≡◌, refl, sym, ap, ◌∙◌}
use Prim.Native.Nat.{◌+◌}
use native.Mathlib.Omega.{arith}
use lib.ListN.{get_or, length-set}
use lib.Ieee.{Float, nan}
use Rattle.numbers.specs.Rounded.{◌⊕◌, ◌⊗◌}
use Rattle.numbers.specs.Lists.{filled}
use Rattle.numbers.proofs.Tabs.{filled_none}
use Rattle.novelties.specs.Lanes.{lane_term}
use Rattle.similarities.proofs.Lanes.{grown_more}
use Rattle.novelties.proofs.add_lanes.Goals as goal

pub loop-j-init : goal.loop-j-init
loop-j-init c = (omega arith, c.requires.0, sym (filled_none _ _ _))

pub bounds-lanes-j : goal.bounds-lanes-j
bounds-lanes-j c = c.loop-j-test.true

pub loop-j-preserved : goal.loop-j-preserved
unfolding lane_term
loop-j-preserved c =
    let a = c.args in (
      omega arith,
      simp length-set c.loop-j.invariant.1,
      rw c.loop-j.invariant.2
          (grown_more (lane_term a.lanes.now a.weight a.near.now a.k) a.lanes.now 0 c.loop-j.j nan
          (λ (x : Float). x ⊕ a.weight ⊗ get_or a.near.now (a.k + c.loop-j.j) nan) (omega arith) (omega arith) refl),
    )

pub returns : goal.returns
returns c =
    let a = c.args in
    let e : c.loop-j.j ≡ 24 = omega arith in
    c.loop-j.invariant.2 ∙ ap (filled (lane_term a.lanes.now a.weight a.near.now a.k) a.lanes.now 0) e
