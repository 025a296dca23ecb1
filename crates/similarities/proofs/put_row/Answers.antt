use mathlib.Core.Path.{◌≡◌, refl, sym, ap, ◌∙◌}
use Prim.Native.Nat.{ℕ, ◌+◌, ◌-◌, ◌<◌}
use native.Mathlib.Nat.{add-sub_cancel_left}
use native.Mathlib.Omega.{arith}
use lib.ListN.{get_or, set, length-set}
use lib.Ieee.{nan}
use Rattle.numbers.specs.Lists.{filled}
use Rattle.numbers.proofs.Tabs.{filled_none, filled-to}
use Rattle.row_pairs.specs.Pairs.{settled}
use Rattle.similarities.specs.Lanes.{settled_from}
use Rattle.similarities.proofs.put_row.Goals.{After-slice_known-1, In-loop-d}
use Rattle.similarities.proofs.put_row.Goals as goal

column-in : (c : After-slice_known-1) → c.args.c < 128
column-in c = omega arith

other-in : (c : In-loop-d) → c.args.c + c.loop-d.d < 128
other-in c = omega arith

pub bounds-norms-c : goal.bounds-norms-c
bounds-norms-c c = column-in (goal.at.bounds-norms-c c).After-slice_known-1

pub loop-d-init : goal.loop-d-init
loop-d-init c =
    let a = c.args in
    let e : a.at + 0 ≡ a.at = omega arith in (
      omega arith,
      refl,
      sym (ap (filled (settled_from a.quotients.now a.norms.now a.c a.at) a.similarity.now a.at) e ∙ filled_none _ _ _),
    )

pub bounds-quotients-d : goal.bounds-quotients-d
bounds-quotients-d c = c.loop-d-test.true

pub bounds-norms-c-in-loop-d : goal.bounds-norms-c-in-loop-d
bounds-norms-c-in-loop-d c = other-in (goal.at.bounds-norms-c-in-loop-d c).In-loop-d

pub loop-d-preserved : goal.loop-d-preserved
unfolding settled_from
loop-d-preserved c =
    let a = c.args in
    let at = a.at in
    let d = c.loop-d.d in
    let f = settled_from a.quotients.now a.norms.now a.c at in
    let e : at + d - at ≡ d = add-sub_cancel_left at d in (
      omega arith,
      simp length-set c.loop-d.invariant.1,
      rw (c.loop-d.invariant.2, c.settle.ensures)
          (ap (λ (k : ℕ). set (filled f a.similarity.now at (at + d)) (at + d)
          (settled (get_or a.quotients.now k nan) (get_or a.norms.now a.c nan) (get_or a.norms.now (a.c + k) nan))) (sym e)
          ∙ filled-to f a.similarity.now at (at + d) (at + (d + 1)) (omega arith) nan (omega arith) (omega arith)),
    )

pub shape_of-similarity : goal.shape_of-similarity
shape_of-similarity c = c.loop-d.invariant.1

pub returns : goal.returns
returns c =
    let a = c.args in
    let e : a.at + c.loop-d.d ≡ a.at + 17 = omega arith in
    c.loop-d.invariant.2 ∙ ap (filled (settled_from a.quotients.now a.norms.now a.c a.at) a.similarity.now a.at) e
