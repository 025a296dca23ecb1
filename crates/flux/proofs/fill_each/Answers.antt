use mathlib.Core.Path.{◌≡◌, refl, sym, ap, ◌∙◌}
use native.Mathlib.Omega.{arith}
use lib.Ieee.{nan}
use lib.ListN.{length-set}
use Rattle.numbers.proofs.Tabs.{filled_none, filled_more}
use Rattle.numbers.specs.Lists.{filled}
use Rattle.flux.specs.Flux.{flux_at}
use Rattle.flux.proofs.fill_each.Goals as goal

pub loop-t-init : goal.loop-t-init
loop-t-init c = (omega arith, omega arith, refl, sym (filled_none _ _ _))

pub flux_slot-requires : goal.flux_slot-requires
flux_slot-requires c = omega arith

pub loop-t-preserved : goal.loop-t-preserved
loop-t-preserved c = (
  omega arith,
  omega arith,
  simp length-set c.loop-t.invariant.2,
  rw (c.loop-t.invariant.3, c.flux_slot.ensures) (filled_more _ _ _ _ (omega arith) nan (omega arith)),
)

pub returns : goal.returns
returns c =
    let e : c.loop-t.t ≡ c.args.past = omega arith in
    c.loop-t.invariant.3 ∙ ap (filled (flux_at c.args.m.values.now c.args.m.slab) c.args.out.now c.args.from) e
