-- `feature_levels::part` meets its contract: the slots of the row that there are. Assumes nothing.
use native.Mathlib.Omega.{arith}
use Prim.Native.Nat.{◌*◌, ◌≤◌}
use native.Mathlib.Nat.{mul-le-mul}
use Rattle.feature_levels.proofs.Samples.{part_is}
use Rattle.feature_levels.proofs.part.Goals as goal

pub overflow_mul-i : goal.overflow_mul-i
overflow_mul-i c =
    let m : c.args.i * c.args.size ≤ 65536 * 2147483648 = mul-le-mul c.requires.1 c.requires.0 in
    omega arith

pub returns : goal.returns
returns c =
    part_is c.args.samples.now c.args.size c.args.i _ _ c.min-from.ensures c.min-end.ensures
