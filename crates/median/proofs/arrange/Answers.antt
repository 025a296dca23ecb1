use Prim.Native.Nat.{◌<◌, ◌-◌}
use mathlib.Core.Path.{◌∙◌, subst}
use native.Mathlib.Omega.{arith}
use Rattle.median.specs.Heaps.{Sifted, swapped}
use Rattle.median.proofs.Ranks.{same_refl, same_trans}
use Rattle.median.proofs.Swaps.{same-swapped, length-swapped}
use Rattle.median.proofs.Heaps.{done-start, pop, done-moved, done_more}
use Rattle.median.proofs.arrange.Goals as goal

pub make_heap-requires : goal.make_heap-requires
make_heap-requires c = tt

pub loop-end-init : goal.loop-end-init
loop-end-init c =
    let b = c.make_heap.ensures in
    (same_refl _, rw b.0.len b.1, done-start _ _ (omega arith), omega arith)

pub swap-requires : goal.swap-requires
swap-requires c = omega (arith, c.loop-end.invariant.3)

pub sift_down-requires : goal.sift_down-requires
sift_down-requires c =
    let v = c.loop-end.invariant in
    let t : 0 < c.loop-end.end = omega (arith, c.loop-end-test.true) in
    rw c.swap.ensures (
      rw (length-swapped 0 (c.loop-end.end - 1) c.loop-end.a) (omega (arith, v.3)),
      (pop c.loop-end.a c.loop-end.end t v.3 v.2 v.1).1,
    )

pub loop-end-preserved : goal.loop-end-preserved
loop-end-preserved c =
    let v = c.loop-end.invariant in
    let xs = c.loop-end.a in
    let e = c.loop-end.end in
    let t : 0 < e = omega (arith, c.loop-end-test.true) in
    let s : Sifted c.sift_down.new.a (swapped 0 (e - 1) xs) 0 (e - 1) =
    subst (λ l. Sifted c.sift_down.new.a l 0 (e - 1)) c.swap.ensures c.sift_down.ensures in (
      same_trans s.moved.same (same_trans (same-swapped 0 (e - 1) xs (omega (arith, v.3)) (omega (arith, v.3))) v.0),
      s.heap,
      done-moved s.moved (pop xs e t v.3 v.2 v.1).0,
      omega (arith, s.moved.same.len, length-swapped 0 (e - 1) xs, v.3),
    )

pub shape_of-a : goal.shape_of-a
shape_of-a c = c.loop-end.invariant.0.len ∙ c.make_heap.ensures.0.len

pub returns : goal.returns
returns c =
    let v = c.loop-end.invariant in
    record { same = same_trans v.0 c.make_heap.ensures.0; done = done_more c.loop-end-test.false v.2 }
