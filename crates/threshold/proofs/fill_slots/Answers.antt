use mathlib.Core.Path.{◌≡◌, refl, sym, ap, ◌∙◌}
use native.Mathlib.Omega.{arith}
use lib.Ieee.{nan}
use lib.ListN.{length-set}
use Rattle.numbers.proofs.Tabs.{filled_none, filled_more}
use Rattle.numbers.specs.Lists.{filled}
use Rattle.threshold.specs.Threshold.{threshold_at}
use Rattle.threshold.proofs.fill_slots.Goals as goal

pub loop-t-init : goal.loop-t-init
loop-t-init c = (omega arith, omega arith, refl, refl, sym (filled_none _ _ _), refl)

pub threshold_slot-requires : goal.threshold_slot-requires
threshold_slot-requires c = (omega arith, omega arith)

pub loop-t-preserved : goal.loop-t-preserved
loop-t-preserved c =
    let v = c.loop-t.invariant in (
      omega arith,
      omega arith,
      simp length-set v.2,
      omega arith,
      rw (v.4, c.threshold_slot.ensures.value) (filled_more _ _ _ _ (omega arith) nan (omega arith)),
      c.threshold_slot.ensures.fact.kept ∙ v.5,
    )

pub returns : goal.returns
returns c =
    let g = c.args in
    let v = c.loop-t.invariant in
    let e : c.loop-t.t ≡ g.past = omega arith in
    record { threshold_after = v.4 ∙ ap (filled (threshold_at g.flux.now) g.threshold.now g.from) e; work_unchanged = v.5 }
