use mathlib.Core.Path.{◌≡◌, refl, sym, ap, ◌∙◌}
use Prim.Native.Nat.{ℕ, ◌+◌, ◌-◌, ◌≤◌, ◌<◌, min}
use native.Mathlib.Omega.{arith}
use lib.Ieee.{Float, lt}
use Rattle.lists.specs.Greatest.{greatest}
use Rattle.beat_links.specs.Extensions.{unlinked}
use Rattle.beat_links.specs.Inner.{tabled, top_of_eight, Reached}
use Rattle.beat_links.proofs.Eights.{Scan, nothing, something, rises, stays, none_above}
use Rattle.beat_links.proofs.bests.best_by_eights.Goals.{else-value-top, then-value-top}
use Rattle.beat_links.proofs.bests.best_by_eights.Goals as goal

module _ (f : ℕ → Float) (lo m m' end : ℕ) (value v : Float) (at a : ℕ) where
  moved : m' ≡ m → value ≡ v → at ≡ a → Scan f lo m end v a → Scan f lo m' end value at
  moved p q r w = rw (p, q, r) w

-- what is known when all are searched
module _ (f : ℕ → Float) (lo m end : ℕ) (value : Float) (at : ℕ) (all : m ≡ end) where
  has_one : at < end → Scan f lo m end value at → Reached f lo end at value
  has_one h (nothing z e none) = absurd (omega arith)
  has_one h (something g r) = rw all at r

  has-none : end ≤ at → Scan f lo m end value at → unlinked ≡ greatest f lo (end - lo) unlinked
  has-none h (nothing z e none) = none_above f lo end (λ i p q. none i p (omega arith))
  has-none h (something g r) = absurd (omega arith)

pub loop-u-init : goal.loop-u-init
loop-u-init c = (omega arith, omega arith, nothing refl refl (λ i p q. absurd (omega arith)))

pub loop-u-preserved : goal.loop-u-preserved
loop-u-preserved c =
    let a = c.args in
    let f = tabled a.table.now a.score.now a.first a.lo in
    let u = c.loop-u.u in
    let s = c.min-start.result in
    let is = c.min-start.ensures in
    let m : min (u + 8) a.end ≡ s + 8 = omega arith in
    let now-lt : lt c.loop-u.value (top_of_eight f s) ≡ lt c.loop-u.value c.top_of_eight-top.result =
    ap (lt c.loop-u.value) (sym c.top_of_eight-top.ensures) in (
      omega arith,
      omega arith,
      elim c.if-value-top.branch [
        | then-value-top w ↦ moved f a.lo (s + 8) (min (u + 8) a.end) a.end c.if-value-top.value (top_of_eight f s) c.if-value-top.at s m (w.value-is ∙ c.top_of_eight-top.ensures) w.at-is
            (rises f a.lo (min u a.end) a.end c.loop-u.value c.loop-u.at s (s + 8) (omega arith) (omega arith) refl (omega arith)
            (omega arith) c.loop-u.invariant.2 (now-lt ∙ w.if-value-top.true))
        | else-value-top w ↦ moved f a.lo (s + 8) (min (u + 8) a.end) a.end c.if-value-top.value c.loop-u.value c.if-value-top.at c.loop-u.at m w.value-is w.at-is
            (stays f a.lo (min u a.end) a.end c.loop-u.value c.loop-u.at s (s + 8) (omega arith) (omega arith) refl (omega arith)
            (omega arith) c.loop-u.invariant.2 (now-lt ∙ w.if-value-top.false))
      ],
    )

pub first_reaching-requires : goal.first_reaching-requires
first_reaching-requires c =
    let a = c.args in
    let f = tabled a.table.now a.score.now a.first a.lo in (
      omega arith,
      omega arith,
      omega arith,
      has_one f a.lo (min c.loop-u.u a.end) a.end c.loop-u.value c.loop-u.at (omega arith) (omega arith) c.loop-u.invariant.2,
    )

pub returns-then-at-end : goal.returns-then-at-end
returns-then-at-end c = c.first_reaching.ensures

pub returns : goal.returns
returns c =
    let a = c.args in
    let f = tabled a.table.now a.score.now a.first a.lo in
    has-none f a.lo (min c.loop-u.u a.end) a.end c.loop-u.value c.loop-u.at (omega arith) (omega arith) c.loop-u.invariant.2
