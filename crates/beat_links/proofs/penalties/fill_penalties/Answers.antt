use mathlib.Core.Path.{◌≡◌, refl, sym, ap, ◌∙◌}
use mathlib.Core.List.{List}
use Prim.Native.Nat.{◌*◌}
use native.Mathlib.Omega.{arith}
use lib.ListN.{set, length-set}
use lib.Ieee.{Float, nan}
use Rattle.numbers.specs.Lists.{filled}
use Rattle.numbers.proofs.Tabs.{filled_none, filled_more}
use Rattle.beat_links.specs.Inner.{slot_penalty}
use Rattle.beat_links.proofs.penalties.fill_penalties.Goals as goal

pub loop-k-init : goal.loop-k-init
loop-k-init c = (omega arith, refl, sym (filled_none _ _ 0))

pub loop-k-preserved : goal.loop-k-preserved
unfolding slot_penalty
loop-k-preserved c =
    let a = c.args in
    let k = c.loop-k.k in (
      omega arith,
      simp length-set c.loop-k.invariant.1,
      ap (λ (t : List Float). set t k c.penalty_of.result) c.loop-k.invariant.2
          ∙ ap (set (filled (slot_penalty a.period) a.table.now 0 k) k) c.penalty_of.ensures
          ∙ filled_more (slot_penalty a.period) a.table.now 0 k (omega arith) nan (omega arith),
    )

pub returns : goal.returns
returns c =
    let a = c.args in
    let e : c.loop-k.k ≡ 2 * a.period = omega arith in
    c.loop-k.invariant.2 ∙ ap (filled (slot_penalty a.period) a.table.now 0) e
