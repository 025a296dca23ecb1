use mathlib.Core.Path.{◌≡◌, refl, sym, ap, ◌∙◌}
use native.Mathlib.Omega.{arith}
use lib.ListN.{length-set}
use lib.Ieee.{nan}
use Rattle.numbers.specs.Lists.{filled}
use Rattle.numbers.proofs.Tabs.{filled_none, filled_more}
use Rattle.novelties.specs.Novelty.{novelty_at}
use Rattle.novelties.proofs.fill_plain.Goals as goal

pub loop-i-init : goal.loop-i-init
loop-i-init c = (omega arith, omega arith, refl, sym (filled_none _ _ _))

pub loop-i-preserved : goal.loop-i-preserved
loop-i-preserved c = (
  omega arith,
  omega arith,
  simp length-set c.loop-i.invariant.2,
  rw (c.loop-i.invariant.3, c.novelty_slot.ensures) (filled_more _ _ _ _ (omega arith) nan (omega arith)),
)

pub returns : goal.returns
returns c =
    let a = c.args in
    let e : c.loop-i.i ≡ a.past = omega arith in
    c.loop-i.invariant.3 ∙ ap (filled (novelty_at a.similarity.now a.rows) a.novelty.now a.from) e
