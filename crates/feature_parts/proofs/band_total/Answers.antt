-- `feature_parts::band_total` meets its contract: the lane's slots of the three bands. Assumes nothing.
use native.Mathlib.Omega.{arith}
use Prim.Native.Nat.{◌+◌, ◌*◌}
use mathlib.Core.Path.{◌≡◌}
use Rattle.feature_parts.proofs.band_total.Goals as goal

pub returns : goal.returns
returns c =
    let e : 0 * 4 + c.args.lane ≡ c.args.lane = omega arith in
    rw e
