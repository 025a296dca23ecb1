use mathlib.Core.Path.{◌≡◌, sym, ap, ◌∙◌}
use Prim.Native.Nat.{ℕ, ◌+◌, ◌-◌, ◌*◌}
use native.Mathlib.Nat.{add-sub_cancel_left}
use native.Mathlib.Omega.{arith}
use lib.ListN.{length, get_or, set, length-set}
use lib.Ieee.{nan}
use Rattle.numbers.specs.Lists.{filled}
use Rattle.numbers.proofs.Tabs.{filled_none, filled-to}
use Rattle.novelties.specs.Lanes.{laid_apart}
use Rattle.novelties.proofs.gather_apart.Goals as goal

pub loop-r-init : goal.loop-r-init
loop-r-init c =
    let a = c.args in
    let e : a.d * 40 + 0 ≡ a.d * 40 = omega arith in
    (omega arith, c.requires.2, sym (ap (filled (laid_apart a.similarity.now a.first a.d) a.near.now (a.d * 40)) e ∙ filled_none _ _ _))

pub loop-r-preserved : goal.loop-r-preserved
unfolding laid_apart
loop-r-preserved c =
    let a = c.args in
    let p : ℕ = a.d * 40 in
    let r = c.loop-r.r in
    let f = laid_apart a.similarity.now a.first a.d in
    let e : p + r - p ≡ r = add-sub_cancel_left p r in
    let m : length a.near.now ≡ 640 = c.requires.2 in (
      omega arith,
      simp length-set c.loop-r.invariant.1,
      rw c.loop-r.invariant.2
          (ap (λ (n : ℕ). set (filled f a.near.now p (p + r)) (p + r) (get_or a.similarity.now (a.first + a.d + 17 * n) nan)) (sym e)
          ∙ filled-to f a.near.now p (p + r) (p + (r + 1)) (omega arith) nan (omega arith) (omega arith)),
    )

pub returns : goal.returns
returns c =
    let a = c.args in
    let e : a.d * 40 + c.loop-r.r ≡ a.d * 40 + 39 = omega arith in
    c.loop-r.invariant.2 ∙ ap (filled (laid_apart a.similarity.now a.first a.d) a.near.now (a.d * 40)) e
