use mathlib.Core.List.{List}
use mathlib.Core.Path.{◌≡◌, refl, sym, ap, ◌∙◌}
use Prim.Native.Nat.{ℕ, ◌+◌, ◌-◌, ◌*◌, ◌/◌}
use native.Mathlib.Omega.{arith}
use lib.Ieee.{Float, nan}
use lib.ListN.{length-set}
use Rattle.numbers.proofs.Tabs.{filled_join}
use Rattle.numbers.specs.Lists.{filled}
use Rattle.flux.specs.Flux.{flux_at}
use Rattle.flux.proofs.Quarters.{quartered, quartered_none, quartered_more, quartered_all}
use Rattle.flux.proofs.fill_four.Goals as goal

pub loop-k-init : goal.loop-k-init
loop-k-init c = (omega arith, omega arith, refl, sym (quartered_none _ nan _ _ _))

pub flux_four-requires : goal.flux_four-requires
flux_four-requires c =
    (omega arith, omega arith)

pub loop-k-preserved : goal.loop-k-preserved
loop-k-preserved c =
    let v = c.loop-k.invariant in
    let e = c.flux_four.ensures in
    let put = c.put_four.ensures in (
      omega arith,
      v.1,
      rw put (simp length-set v.2),
      rw (put, e.0, e.1, e.2, e.3, v.3) (quartered_more _ nan _ _ _ _ (omega arith) (omega arith)),
    )

pub fill_each-requires : goal.fill_each-requires
fill_each-requires c =
    (c.loop-k.invariant.1, omega arith, omega arith)

pub returns : goal.returns
returns c =
    let g = c.args in
    let v = c.loop-k.invariant in
    let f : ℕ → Float = flux_at g.m.values.now g.m.slab in
    let out = g.out.now in
    let q = (g.past - g.from) / 4 in
    let e : c.loop-k.k ≡ q = omega arith in
    let all : c.loop-k.out ≡ filled f out g.from (g.from + 4 * q) =
    v.3 ∙ ap (quartered f nan out g.from q) e ∙ quartered_all f nan out g.from q (omega arith) in
    c.fill_each.ensures
    ∙ ap (λ (d : List Float). filled f d (g.from + 4 * q) g.past) all
    ∙ filled_join f out g.from (g.from + 4 * q) g.past (omega arith) v.1 nan (omega arith)
