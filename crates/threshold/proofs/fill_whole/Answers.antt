use mathlib.Core.Path.{◌≡◌, refl, sym, ap, ◌∙◌, subst}
use mathlib.Core.List.{List, map}
use Prim.Native.Nat.{◌+◌, ◌-◌, ◌≤◌}
use native.Mathlib.Omega.{arith}
use borrow.Author.Tests.{not-false}
use lib.ListN.{length, length-set, length-take, length-drop}
use lib.Ieee.{Float, nan, eq, ne}
use Rattle.numbers.specs.Lists.{filled}
use Rattle.numbers.proofs.Tabs.{filled_none, filled_more}
use Rattle.median.specs.Median.{sort}
use Rattle.median.proofs.Ranks.{AllFit}
use Rattle.windows.specs.Windows.{one_zero, Window}
use Rattle.threshold.specs.Threshold.{threshold_at}
use Rattle.threshold.specs.Sliding.{FinePart, sorted_threshold}
use Rattle.threshold.proofs.Sliding.{before-is, sorted_at, window_of, sorted_threshold_lem, next_window, same-window, same_threshold}
use Rattle.threshold.proofs.fill_whole.Goals.{then-leaves-comes, else-leaves-comes}
use Rattle.threshold.proofs.fill_whole.Goals as goal

pub sorted-s-requires : goal.sorted-s-requires
sorted-s-requires c = simp (length-take, length-drop) (omega arith)

pub over_sorted-value-requires : goal.over_sorted-value-requires
over_sorted-value-requires c =
    let p = c.requires in
    let flux = c.args.flux.now in
    let t = c.args.from in
    subst Window (sym (c.sorted-s.ensures ∙ ap (λ (w : List Float). sort (map one_zero w)) (before-is flux t p.le_from.0 (omega arith))))
    (window_of flux (λ k. c.shared_slice_known-1.given k) (t - 1) (omega arith) (omega arith)
    (λ i a b. p.fine_part i (omega arith) (omega arith)))

pub loop-t-init : goal.loop-t-init
loop-t-init c =
    let p = c.requires in
    let flux = c.args.flux.now in
    let t = c.args.from in
    let e = c.sorted-s.ensures ∙ ap (λ (w : List Float). sort (map one_zero w)) (before-is flux t p.le_from.0 (omega arith)) in
    let value = sorted_threshold_lem flux (λ k. c.shared_slice_known-1.given k) (t - 1) (omega arith) (omega arith)
    (λ i a b. p.fine_part i (omega arith) (omega arith)) in
    (omega arith, omega arith, refl, sym (filled_none _ _ _), e, c.over_sorted-value.ensures ∙ ap sorted_threshold e ∙ value)

pub one_zero-leaves-requires : goal.one_zero-leaves-requires
one_zero-leaves-requires c = tt

pub one_zero-comes-requires : goal.one_zero-comes-requires
one_zero-comes-requires c = tt

pub replace-requires : goal.replace-requires
replace-requires c =
    let p = c.requires in
    ap length c.loop-t.invariant.4
    ∙ (window_of c.args.flux.now (λ k. c.shared_slice_known-1.given k) (c.loop-t.t - 1) (omega arith) (omega arith)
    (λ i a b. p.fine_part i (omega arith) (omega arith))).room

pub over_sorted-value-requires-then-leaves-comes : goal.over_sorted-value-requires-then-leaves-comes
over_sorted-value-requires-then-leaves-comes c =
    let p = c.requires in
    let flux = c.args.flux.now in
    let t = c.loop-t.t in
    let next = next_window flux (λ k. c.shared_slice_known-1.given k) t (omega arith) (omega arith) (λ i a b. p.fine_part i (omega arith) (omega arith))
    c.one_zero-leaves.ensures c.one_zero-comes.ensures c.loop-t.s c.loop-t.invariant.4 in
    subst Window (sym (c.replace.ensures ∙ next))
    (window_of flux (λ k. c.shared_slice_known-1.given k) t (omega arith) (omega arith) (λ i a b. p.fine_part i (omega arith) (omega arith)))

pub loop-t-preserved : goal.loop-t-preserved
unfolding eq ne
loop-t-preserved c =
    let p = c.requires in
    let flux = c.args.flux.now in
    let f : AllFit flux = λ k. c.shared_slice_known-1.given k in
    let t = c.loop-t.t in
    let v = c.loop-t.invariant in
    let e : t + 1 - 1 ≡ t = omega arith in
    let ten : 10 ≤ t = omega arith in
    let eleven : 11 ≤ t = omega arith in
    let room : t + 11 ≤ length flux = omega arith in
    let part : FinePart flux (t - 11) (t + 11) = λ i a b. p.fine_part i (omega arith) (omega arith) in
    let x = c.one_zero-leaves.ensures in
    let y = c.one_zero-comes.ensures in
    let next = next_window flux f t eleven room part x y c.loop-t.s v.4 in
    let moved : c.if-leaves-comes.s ≡ sorted_at flux f t = elim c.if-leaves-comes.branch [
      | then-leaves-comes z ↦ z.s-is ∙ z.replace.ensures ∙ next
      | else-leaves-comes z ↦ z.s-is ∙ v.4 ∙ same-window flux f t eleven room part x y (not-false _ z.if-leaves-comes.false)
    ] in
    let value : c.if-leaves-comes.value ≡ threshold_at flux t = elim c.if-leaves-comes.branch [
      | then-leaves-comes z ↦
          z.value-is ∙ z.over_sorted-value-then-leaves-comes.ensures ∙ ap sorted_threshold (z.replace.ensures ∙ next)
          ∙ sorted_threshold_lem flux f t ten room (λ i a b. part i (omega arith) b)
      | else-leaves-comes z ↦ z.value-is ∙ v.5 ∙ same_threshold flux f t eleven room part x y (not-false _ z.if-leaves-comes.false)
    ] in (
      omega arith,
      omega arith,
      simp length-set v.2,
      rw (v.3, value) (filled_more (threshold_at flux) _ c.args.from t v.0 nan (omega arith)),
      rw e moved,
      rw e value,
    )

pub returns : goal.returns
returns c =
    let a = c.args in
    let v = c.loop-t.invariant in
    let e : c.loop-t.t ≡ a.past = omega arith in
    v.3 ∙ ap (filled (threshold_at a.flux.now) a.threshold.now a.from) e
