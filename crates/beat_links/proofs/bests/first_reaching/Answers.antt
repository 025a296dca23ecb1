use mathlib.Core.Path.{◌≡◌, sym, ap, ◌∙◌}
use mathlib.Core.Logic.{⊎_elim}
use Prim.Native.Nat.{ℕ, ◌≤◌, ◌<◌}
use native.Mathlib.Omega.{arith}
use lib.Ieee.{Float, le}
use Rattle.numbers.proofs.Tests.{lt_or_le}
use Rattle.beat_links.specs.Inner.{tabled}
use Rattle.lists.proofs.Greatest.{best}
use Rattle.beat_links.proofs.Eights.{first_hit, missed}
use Rattle.beat_links.proofs.bests.first_reaching.Goals as goal

pub loop-u-init : goal.loop-u-init
loop-u-init c = (omega arith, omega (arith, c.requires.3.from), λ i p q. absurd (omega arith))

pub returns-then-value-c : goal.returns-then-value-c
returns-then-value-c c =
    let a = c.args in
    let f = tabled a.table.now a.score.now a.first a.lo in
    let u = c.loop-u.u in
    let e = c.tabled_at-c.ensures in
    ap (λ (v : Float). best v u) e
    ∙ first_hit f a.lo a.end a.at a.value c.requires.3 u (omega arith) (omega arith)
    (ap (le a.value) (sym e) ∙ c.if-value-c.true) c.loop-u.invariant.2

pub loop-u-preserved : goal.loop-u-preserved
loop-u-preserved c =
    let a = c.args in
    let f = tabled a.table.now a.score.now a.first a.lo in
    let u = c.loop-u.u in (
      omega arith,
      omega arith,
      λ i p q. ⊎_elim (λ (h : i < u). c.loop-u.invariant.2 i p h)
          (λ (h : u ≤ i). let z : i ≡ u = omega arith in ap (λ (j : ℕ). le a.value (f j)) z ∙ ap (le a.value) (sym c.tabled_at-c.ensures)
          ∙ c.if-value-c.false)
          (lt_or_le i u),
    )

pub returns : goal.returns
returns c =
    let a = c.args in
    missed (tabled a.table.now a.score.now a.first a.lo) a.lo a.end a.at a.value c.requires.3
    c.loop-u.u (omega arith) c.loop-u.invariant.2
