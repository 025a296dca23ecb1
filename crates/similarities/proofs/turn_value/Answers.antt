use mathlib.Core.Path.{◌≡◌, sym, ap, ◌∙◌}
use Prim.Native.Nat.{ℕ, ◌+◌, ◌*◌, ◌/◌, ◌%◌}
use native.Mathlib.Omega.{arith}
use lib.ListN.{get_or, set, length-set}
use lib.Ieee.{nan}
use Rattle.numbers.specs.Lists.{filled}
use Rattle.numbers.proofs.Tabs.{filled_none, filled-to}
use Rattle.similarities.specs.Lanes.{turned_at}
use Rattle.similarities.proofs.turn_value.Goals as goal

pub loop-r-init : goal.loop-r-init
loop-r-init c =
    let a = c.args in
    let e : a.k * 128 + 0 ≡ a.k * 128 = omega arith in
    (omega arith, c.requires.4, sym (ap (filled (turned_at a.features.now a.first) a.turned.now (a.k * 128)) e ∙ filled_none _ _ _))

pub loop-r-preserved : goal.loop-r-preserved
unfolding turned_at
loop-r-preserved c =
    let a = c.args in
    let k = a.k in
    let r = c.loop-r.r in
    let f = turned_at a.features.now a.first in
    let e : (a.first + (k * 128 + r) % 128) * 16 + (k * 128 + r) / 128 ≡ (a.first + r) * 16 + k = omega arith in (
      omega arith,
      simp length-set c.loop-r.invariant.1,
      rw c.loop-r.invariant.2
          (ap (λ (p : ℕ). set (filled f a.turned.now (k * 128) (k * 128 + r)) (k * 128 + r) (get_or a.features.now p nan)) (sym e)
          ∙ filled-to f a.turned.now (k * 128) (k * 128 + r) (k * 128 + (r + 1)) (omega arith) nan (omega arith) (omega arith)),
    )

pub returns : goal.returns
returns c =
    let a = c.args in
    let e : a.k * 128 + c.loop-r.r ≡ a.k * 128 + a.count = omega arith in
    c.loop-r.invariant.2 ∙ ap (filled (turned_at a.features.now a.first) a.turned.now (a.k * 128)) e
