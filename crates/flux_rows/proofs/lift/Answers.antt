use mathlib.Core.Path.{◌≡◌, refl, sym, ap, ◌∙◌}
use Prim.Native.Nat.{ℕ, ◌+◌}
use native.Mathlib.Omega.{arith}
use lib.Ieee.{nan}
use lib.ListN.{length, length-set}
use Rattle.numbers.proofs.Tabs.{filled_none, filled_more}
use Rattle.numbers.specs.Lists.{filled}
use Rattle.flux_rows.specs.Rises.{rise_at}
use Rattle.flux_rows.proofs.Rises.{rise_of, part_whole}
use Rattle.flux_rows.proofs.lift.Goals as goal

pub loop-k-init : goal.loop-k-init
loop-k-init c = (omega arith, refl, sym (filled_none _ _ _))

pub wide-requires : goal.wide-requires
wide-requires c = (omega (arith, c.requires.cur_len, c.requires.part_in_bounds, c.loop-k.invariant.1), c.requires.prev_value.1)

pub wide-requires-in-loop-k : goal.wide-requires-in-loop-k
wide-requires-in-loop-k c = (omega (arith, c.requires.part_in_bounds, c.loop-k.invariant.1), c.requires.prev_value.0)

pub loop-k-smaller : goal.loop-k-smaller
loop-k-smaller c = omega (arith, c.loop-k.invariant.1)

pub loop-k-preserved : goal.loop-k-preserved
loop-k-preserved c =
    let g = c.args in
    let v = c.loop-k.invariant in
    let e = rise_of _ _ _ g.prev.now g.cur.now (g.from + c.loop-k.k) c.wide-in-loop-k.ensures c.wide.ensures c.positive_part.ensures in (
      omega (arith, v.1),
      simp length-set v.1,
      rw (v.2, e) (filled_more _ _ _ _ (omega arith) nan (omega (arith, v.1))),
    )

pub shape_of-part : goal.shape_of-part
shape_of-part c = c.loop-k.invariant.1

pub returns : goal.returns
returns c =
    let g = c.args in
    let v = c.loop-k.invariant in
    let e : c.loop-k.k ≡ length g.part.now = omega (arith, v.1) in
    v.2
    ∙ ap (filled (λ (j : ℕ). rise_at g.prev.now g.cur.now (g.from + j)) g.part.now 0) e
    ∙ part_whole g.prev.now g.cur.now g.part.now g.from (length g.part.now) refl
