use Prim.Native.Nat.{◌-◌, ◌+◌}
use mathlib.Core.Path.{◌≡◌, refl}
use native.Mathlib.Omega.{arith}
use Rattle.median.proofs.Ranks.{same_refl, same_trans}
use Rattle.median.proofs.Heaps.{heap-at, heap-start}
use Rattle.median.proofs.make_heap.Goals as goal

pub loop-start-init : goal.loop-start-init
loop-start-init c = (same_refl _, heap-start _ _, refl)

pub sift_down-requires : goal.sift_down-requires
sift_down-requires c =
    let v = c.loop-start.invariant in
    let back : c.loop-start.start ≡ c.loop-start.start - 1 + 1 = omega (arith, c.loop-start-test.true) in
    (omega (arith, v.0.len, v.2), heap-at back v.1)

pub loop-start-preserved : goal.loop-start-preserved
loop-start-preserved c =
    let s = c.sift_down.ensures in
    let v = c.loop-start.invariant in
    (same_trans s.moved.same v.0, s.heap, v.2)

pub shape_of-a : goal.shape_of-a
shape_of-a c = c.loop-start.invariant.0.len

pub returns : goal.returns
returns c =
    let v = c.loop-start.invariant in
    let z : c.loop-start.start ≡ 0 = omega arith in
    (v.0, heap-at z v.1)
