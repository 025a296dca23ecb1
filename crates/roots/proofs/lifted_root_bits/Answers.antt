use native.Mathlib.Omega.{arith}
use Rattle.roots.proofs.Nearest.{lift_start, lift_step, near_of, near_high, near_nearest}
use Rattle.roots.proofs.Unique.{root_is}
use Rattle.roots.proofs.lifted_root_bits.Goals as goal

pub loop-a-init : goal.loop-a-init
loop-a-init c = lift_start _ c.requires.0 c.requires.1

pub loop-a-preserved : goal.loop-a-preserved
loop-a-preserved c = lift_step _ _ _ c.loop-a.invariant c.loop-a-test.true

pub overflow_add-result : goal.overflow_add-result
overflow_add-result c =
    let s = c.loop-a.invariant.split in
    omega (arith, near_high _ _ c.loop-a-test.false s.high (near_of _ _ c.nearest_whole.ensures))

pub returns : goal.returns
returns c =
    root_is _ _ c.requires.0 (omega arith) (near_nearest _ _ _ _ c.loop-a-test.false c.loop-a.invariant.split
    (near_of _ _ c.nearest_whole.ensures))
