use Rattle.std.proofs.Common.{◌≡◌, ℕ, length, get_or, sym, refl, ap, ◌∙◌, arith, length-set}
use lib.Ieee.{nan}
use Rattle.numbers.proofs.Tabs.{filled_none, filled_more}
use Rattle.numbers.specs.Lists.{filled}
use Rattle.numbers.specs.Rounded.{◌⊗◌, real}
use Rattle.onsets.proofs.Onsets.{filled-map}
use Rattle.sections.proofs.write_times.Goals as goal

pub loop-i-init : goal.loop-i-init
loop-i-init c = (omega arith, refl, sym (filled_none _ _ _))

pub loop-i-preserved : goal.loop-i-preserved
loop-i-preserved c = (
  omega arith,
  simp length-set c.loop-i.invariant.1,
  rw c.loop-i.invariant.2 (filled_more _ _ _ _ (omega arith) nan (omega arith)),
)

pub returns : goal.returns
returns c =
    let g = c.args in
    let e : c.loop-i.i ≡ length g.rows.now = omega arith in
    c.loop-i.invariant.2 ∙ ap (filled (λ (k : ℕ). real (get_or g.rows.now k 0) ⊗ g.each) g.ms.now 0) e
    ∙ filled-map (λ (row : ℕ). real row ⊗ g.each) g.rows.now 0 g.ms.now
