use Prim.Native.Nat.{ℕ, ◌+◌}
use mathlib.Core.Path.{◌≡◌, sym, ap, ◌∙◌, subst}
use native.Mathlib.Omega.{arith}
use lib.Ieee.{Float}
use Rattle.windows.specs.Windows.{lower, farther}
use Rattle.windows.proofs.Spreads.{Least, end_one, end_join, end_all}
use Rattle.windows.proofs.middle_distance.Goals as goal

pub loop-j-init : goal.loop-j-init
loop-j-init c =
    let w = c.requires in
    let s = c.args.s.now in (
      omega arith,
      omega arith,
      subst (λ (r : Float). Least s 10 0 1 r) (sym c.farther_end-low.ensures) (end_one w 0),
      subst (λ (r : Float). Least s 10 5 6 r) (sym c.farther_end-high.ensures) (end_one w 5),
    )

pub lower_of-low-requires : goal.lower_of-low-requires
lower_of-low-requires c = tt

pub lower_of-high-requires : goal.lower_of-high-requires
lower_of-high-requires c = tt

pub loop-j-preserved : goal.loop-j-preserved
loop-j-preserved c =
    let s = c.args.s.now in
    let w = c.requires in
    let v = c.loop-j.invariant in
    let j = c.loop-j.j in
    let turned : j + 5 + 1 ≡ j + 1 + 5 = omega arith in
    let low = c.lower_of-low.ensures ∙ ap (λ (r : Float). lower r c.loop-j.low) c.farther_end.ensures in
    let high = c.lower_of-high.ensures ∙ ap (λ (r : Float). lower r c.loop-j.high) c.farther_end-in-loop-j.ensures in (
      omega arith,
      omega arith,
      subst (λ (r : Float). Least s 10 0 (j + 1) r) (sym low) (end_join w (omega arith) v.2 (end_one w j)),
      subst (λ (r : Float). Least s 10 5 (j + 1 + 5) r) (sym high)
          (subst (λ (k : ℕ). Least s 10 5 k (lower (farther s 10 (j + 5)) c.loop-j.high)) turned
          (end_join w (omega arith) v.3 (end_one w (j + 5)))),
    )

pub lower_of-requires : goal.lower_of-requires
lower_of-requires c = tt

pub lower_of-requires-2 : goal.lower_of-requires-2
lower_of-requires-2 c = tt

pub returns : goal.returns
returns c =
    let s = c.args.s.now in
    let w = c.requires in
    let v = c.loop-j.invariant in
    let e : c.loop-j.j ≡ 5 = omega arith in
    let low : Least s 10 0 5 c.loop-j.low = subst (λ (k : ℕ). Least s 10 0 k c.loop-j.low) e v.2 in
    let high : Least s 10 5 10 c.loop-j.high = subst (λ (k : ℕ). Least s 10 5 (k + 5) c.loop-j.high) e v.3 in
    let value = c.lower_of-2.ensures ∙ ap (λ (r : Float). lower r c.lower_of.result) c.farther_end-2.ensures
    ∙ ap (lower (farther s 10 10)) c.lower_of.ensures in
    value ∙ end_all w _ (end_join w (omega arith) (end_join w (omega arith) low high) (end_one w 10))
