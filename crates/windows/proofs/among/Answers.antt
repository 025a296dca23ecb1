use Prim.Native.Nat.{ℕ, zero, suc, ◌-◌, ◌≤◌, zero-le}
use mathlib.Core.Path.{◌≡◌, refl, sym, ap, ◌∙◌}
use mathlib.Core.List.{List}
use native.Mathlib.Nat.{not-suc-le-zero}
use native.Mathlib.Omega.{arith}
use lib.ListN.{length, get_or, set, length-set}
use lib.Ieee.{Float, nan}
use Rattle.numbers.specs.Lists.{filled}
use Rattle.numbers.proofs.Tabs.{filled_none, filled_more, filled_join, filled-all}
use Rattle.windows.specs.Windows.{lower, higher, among_at, among}
use Rattle.windows.proofs.Slides.{past-lower}
use Rattle.windows.proofs.among.Goals as goal

inner : (rest : List Float) (v : Float) (i : ℕ) → 1 ≤ i → higher (get_or rest (i - 1) nan) (lower (get_or rest i nan) v) ≡ among_at rest v i
unfolding among_at
inner rest v zero h = absurd (not-suc-le-zero h)
inner rest v (suc k) h = let e : suc k - 1 ≡ k = omega arith in rw e refl

last : (rest : List Float) (v : Float) → length rest ≡ 20 → higher (get_or rest 19 nan) v ≡ among_at rest v 20
unfolding among_at
last rest v n = ap (higher (get_or rest 19 nan)) (sym (past-lower rest 20 v (omega arith)))

pub lower_of-requires : goal.lower_of-requires
lower_of-requires c = tt

pub bounds-s-0 : goal.bounds-s-0
bounds-s-0 c = omega (arith, c.requires)

pub loop-i-init : goal.loop-i-init
loop-i-init c = (omega arith, omega arith, simp length-set c.requires.1, sym (filled_none _ _ _))

pub lower_of-requires-in-loop-i : goal.lower_of-requires-in-loop-i
lower_of-requires-in-loop-i c = tt

pub higher_of-requires : goal.higher_of-requires
higher_of-requires c = tt

pub loop-i-preserved : goal.loop-i-preserved
loop-i-preserved c =
    let a = c.args in
    let v = c.loop-i.invariant in
    let n = length-set a.s.now 0 c.lower_of.result in
    let e = c.higher_of.ensures ∙ ap (higher (get_or a.rest.now (c.loop-i.i - 1) nan)) c.lower_of-in-loop-i.ensures
    ∙ inner a.rest.now a.v c.loop-i.i v.0 in (
      omega arith,
      omega arith,
      simp length-set v.2,
      rw (v.3, e) (filled_more (among_at a.rest.now a.v) _ 1 c.loop-i.i v.0 nan (omega (arith, n, c.requires.1))),
    )

pub higher_of-requires-2 : goal.higher_of-requires-2
higher_of-requires-2 c = tt

pub returns : goal.returns
unfolding among among_at
returns c =
    let a = c.args in
    let v = c.loop-i.invariant in
    let f = among_at a.rest.now a.v in
    let d = a.s.now in
    let n = c.requires.1 in
    let e : c.loop-i.i ≡ 20 = omega arith in
    let first : set d 0 c.lower_of.result ≡ filled f d 0 1 =
    rw c.lower_of.ensures
    (ap (λ (z : List Float). set z 0 (f 0)) (sym (filled_none f d 0)) ∙ filled_more f d 0 0 zero-le nan (omega (arith, n))) in
    let rest : c.loop-i.s ≡ filled f d 0 20 =
    v.3 ∙ ap (filled f (set d 0 c.lower_of.result) 1) e ∙ ap (λ (z : List Float). filled f z 1 20) first
    ∙ filled_join f d 0 1 20 zero-le (omega arith) nan (omega (arith, n)) in
    rw (rest, c.higher_of-2.ensures ∙ last a.rest.now a.v c.requires.0)
    (filled_more f d 0 20 zero-le nan (omega (arith, n)) ∙ filled-all f d 21 n)
