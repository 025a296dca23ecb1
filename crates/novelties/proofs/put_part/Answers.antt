use mathlib.Core.Path.{◌≡◌, refl, sym, ap, ◌∙◌}
use native.Mathlib.Omega.{arith}
use lib.ListN.{length-set}
use lib.Ieee.{nan}
use Rattle.numbers.specs.Lists.{filled}
use Rattle.numbers.proofs.Tabs.{filled_none, filled_more}
use Rattle.novelties.specs.Lanes.{lane_from}
use Rattle.novelties.proofs.put_part.Goals as goal

pub loop-k-init : goal.loop-k-init
loop-k-init c = (omega arith, omega arith, refl, sym (filled_none _ _ _))

pub loop-k-preserved : goal.loop-k-preserved
unfolding lane_from
loop-k-preserved c =
    let a = c.args in (
      omega arith,
      omega arith,
      simp length-set c.loop-k.invariant.2,
      rw c.loop-k.invariant.3
          (filled_more (lane_from a.values.now a.first) a.novelty.now a.from c.loop-k.k (omega arith) nan (omega arith)),
    )

pub shape_of-novelty : goal.shape_of-novelty
shape_of-novelty c = c.loop-k.invariant.2

pub returns : goal.returns
returns c =
    let a = c.args in
    let e : c.loop-k.k ≡ a.past = omega arith in
    c.loop-k.invariant.3 ∙ ap (filled (lane_from a.values.now a.first) a.novelty.now a.from) e
