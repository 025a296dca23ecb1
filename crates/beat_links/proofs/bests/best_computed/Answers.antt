use mathlib.Core.Path.{◌≡◌, refl, sym, ap, ◌∙◌, subst}
use mathlib.Core.Bool.{true, false}
use Prim.Native.Nat.{ℕ, ◌+◌, ◌-◌, ◌<◌}
use native.Mathlib.Omega.{arith}
use lib.Ieee.{Float, le}
use Rattle.numbers.specs.Rounded.{nought}
use Rattle.lists.specs.declared.Best.{Best}
use Rattle.lists.specs.Greatest.{greatest}
use Rattle.beat_links.specs.Extensions.{unlinked, extended}
use Rattle.beat_links.specs.Inner.{larger}
use Rattle.lists.proofs.Greatest.{best, greatest_step, greatest_end}
use Rattle.beat_links.proofs.PassedOver.{not-above, not_reached, greatest-reaches, greatest_skip}
use Rattle.beat_links.proofs.bests.best_computed.Goals.{then-reached-prev+then-value-prev+then-value-extension, then-reached-prev+then-value-prev+else-value-extension, then-reached-prev+else-value-prev, else-reached-prev}
use Rattle.beat_links.proofs.bests.best_computed.Goals as goal

pub loop-u-init : goal.loop-u-init
loop-u-init c =
    let a = c.args in
    let f = extended a.period a.score.now a.t in
    let is = c.up-reached.ensures ∙ ap (larger nought) (c.extended_at.ensures ∙ ap f c.saturating_sub.ensures) in (
      omega arith,
      subst (λ (w : Float). le w (greatest f a.lo (a.end - a.lo) unlinked).value ≡ true) (sym is)
          (greatest-reaches f a.lo (a.end - a.lo) (a.t - a.period) (omega arith) (omega arith)),
      refl,
    )

pub loop-u-preserved : goal.loop-u-preserved
loop-u-preserved c =
    let a = c.args in
    let u = c.loop-u.u in
    let v = c.loop-u.value in
    let b = c.loop-u.at in
    let f = extended a.period a.score.now a.t in
    let holds = c.shared_slice_known-in-loop-u-1.given u in
    let h : u < a.end = omega arith in
    let step = greatest_step f u a.end v c.if-reached-prev.value in
    let reaches = subst (λ (y : Best). le c.up-reached.result y.value ≡ true) (sym c.loop-u.invariant.2) c.loop-u.invariant.1 in (
      omega arith,
      c.loop-u.invariant.1,
      elim c.if-reached-prev.branch [
        | then-reached-prev+then-value-prev+then-value-extension w ↦
            step w.extended_at-extension.result b c.if-reached-prev.at true h w.extended_at-extension.ensures w.if-value-extension.true w.value-is w.at-is
        | then-reached-prev+then-value-prev+else-value-extension w ↦
            step w.extended_at-extension.result b c.if-reached-prev.at false h w.extended_at-extension.ensures w.if-value-extension.false w.value-is w.at-is
        | then-reached-prev+else-value-prev w ↦
            step (f u) b c.if-reached-prev.at false h refl (not-above a.period a.score.now a.t u v holds w.if-value-prev.false) w.value-is w.at-is
        | else-reached-prev w ↦
            ap (λ (y : Float). greatest f (u + 1) (a.end - (u + 1)) (best y c.if-reached-prev.at)) w.value-is
            ∙ ap (λ (k : ℕ). greatest f (u + 1) (a.end - (u + 1)) (best v k)) w.at-is
            ∙ greatest_skip f u a.end v c.up-reached.result b h reaches
            (not_reached a.period a.score.now a.t u c.up-reached.result holds w.if-reached-prev.false)
      ]
          ∙ c.loop-u.invariant.2,
    )

pub returns : goal.returns
returns c =
    let a = c.args in
    greatest_end (extended a.period a.score.now a.t) c.loop-u.u a.end (best c.loop-u.value c.loop-u.at) c.loop-u-test.false
    ∙ c.loop-u.invariant.2
