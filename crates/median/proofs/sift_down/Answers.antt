use Prim.Native.Nat.{ℕ, ◌≤◌, ◌<◌, ◌*◌, ◌/◌, ◌^◌}
use mathlib.Core.Path.{◌∙◌, sym}
use native.Mathlib.Omega.{arith}
use borrow.Author.Rules.{rules}
use borrow.Author.Tests.{ltb-true, ltb-false}
use lib.ListN.{length}
use Rattle.median.specs.Ranks.{key_at}
use Rattle.median.proofs.Heaps.{moved_none, moved_trans, moved-swapped, hole_start, hole_step, hole_end}
use Rattle.median.proofs.sift_down.Goals.{After-greater_child-child}
use Rattle.median.proofs.sift_down.Goals as goal

past : (r e k : ℕ) → 2 * r < k → k < e → e / 2 ≤ r → ⊥
past r e k a b h = omega arith

-- what is known of the two places once the child is chosen
room : (c : After-greater_child-child) →
    (c.loop-parent.parent < c.greater_child-child.result) × (c.greater_child-child.result < c.args.end)
    × (c.args.end ≤ length c.loop-parent.a)
    × (length c.loop-parent.a * 8 < 2 ^ 63)
room c =
    let g = c.greater_child-child.ensures in
    let l = c.loop-parent.invariant.0.same.len in
    (omega (arith, g.lo), g.inside, omega (arith, c.requires.0), omega (arith, c.well_formed.0.1))

pub loop-parent-init : goal.loop-parent-init
loop-parent-init c = (moved_none _ _, hole_start _ _ _ c.requires.1, search rules)

pub greater_child-child-requires : goal.greater_child-child-requires
greater_child-child-requires c =
    let l = c.loop-parent.invariant.0.same.len in
    let e = c.requires.0 in
    (omega (arith, c.loop-parent-test.true), omega arith)

pub offset_bounds-a-parent : goal.offset_bounds-a-parent
offset_bounds-a-parent c = omega (arith, room (goal.at.offset_bounds-a-parent c).After-greater_child-child)

pub bounds-a-parent : goal.bounds-a-parent
bounds-a-parent c = omega (arith, room (goal.at.bounds-a-parent c).After-greater_child-child)

pub offset_bounds-a-child : goal.offset_bounds-a-child
offset_bounds-a-child c = omega (arith, room (goal.at.offset_bounds-a-child c).After-greater_child-child)

pub bounds-a-child : goal.bounds-a-child
bounds-a-child c = omega (arith, room (goal.at.bounds-a-child c).After-greater_child-child)

pub precedes-requires : goal.precedes-requires
precedes-requires c = tt

pub swap-requires : goal.swap-requires
swap-requires c = omega (arith, room (goal.at.swap-requires c).After-greater_child-child)

pub loop-parent-smaller : goal.loop-parent-smaller
loop-parent-smaller c = omega (arith, room (goal.at.loop-parent-smaller c).After-greater_child-child)

pub loop-parent-preserved : goal.loop-parent-preserved
loop-parent-preserved c =
    let g = c.greater_child-child.ensures in
    let l = c.loop-parent.invariant.0.same.len in
    let e = c.requires.0 in
    let m = c.greater_child-child.result in
    let r = c.loop-parent.parent in
    let s = c.args.start in
    let n = c.args.end in
    rw c.swap.ensures (
      moved_trans (moved-swapped c.loop-parent.a r m n (omega (arith, g.lo, g.inside)) g.inside (omega arith)) c.loop-parent.invariant.0,
      hole_step c.loop-parent.a s r n m c.loop-parent.invariant.1 g c.loop-parent.invariant.2 (omega arith)
          (ltb-true _ _ (sym c.precedes.ensures ∙ c.if-precedes.true)),
      omega (arith, g.lo, c.loop-parent.invariant.2),
    )

pub shape_of-a-else-precedes : goal.shape_of-a-else-precedes
shape_of-a-else-precedes c = c.loop-parent.invariant.0.same.len

pub returns-else-precedes : goal.returns-else-precedes
returns-else-precedes c =
    let g = c.greater_child-child.ensures in
    record {
      moved = c.loop-parent.invariant.0;
      heap = hole_end _ _ c.loop-parent.parent _ c.loop-parent.invariant.1
          (λ k a b d. omega (
            arith,
            g.all k a b d,
            ltb-false (key_at c.loop-parent.a c.loop-parent.parent)
                (key_at c.loop-parent.a c.greater_child-child.result) (sym c.precedes.ensures ∙ c.if-precedes.false),
          ));
    }

pub shape_of-a : goal.shape_of-a
shape_of-a c = c.loop-parent.invariant.0.same.len

pub returns : goal.returns
returns c = record {
  moved = c.loop-parent.invariant.0;
  heap = hole_end _ _ c.loop-parent.parent _ c.loop-parent.invariant.1 (λ k a b d. absurd (past _ _ k a d c.loop-parent-test.false));
}
