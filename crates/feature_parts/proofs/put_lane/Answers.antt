-- `feature_parts::put_lane` meets its contract: where there is no row i both ends are the end of the rows. Assumes nothing.
use native.Mathlib.Omega.{arith}
use Prim.Native.Nat.{◌+◌, ◌*◌, min}
use mathlib.Core.Path.{◌≡◌, refl, sym, ap, ◌∙◌}
use lib.ListN.{length}
use Rattle.feature_parts.specs.Parts.{lane_filled}
use Rattle.numbers.proofs.Tabs.{filled_none, length-filled}
use Rattle.feature_parts.proofs.put_lane.Goals as goal

pub returns-then-i-count : goal.returns-then-i-count
unfolding lane_filled
returns-then-i-count c =
    let a : min c.args.i c.args.count ≡ c.args.i = omega arith in
    let b : min (c.args.i + 1) c.args.count ≡ c.args.i + 1 = omega arith in (
      ap length c.put_row.ensures
          ∙ length-filled _ c.args.features.now (c.args.i * 16) ((c.args.i + 1) * 16) (omega arith) (omega (arith, c.requires.4)),
      rw (a, b) c.put_row.ensures,
    )

pub returns-else-i-count : goal.returns-else-i-count
unfolding lane_filled
returns-else-i-count c =
    let a : min c.args.i c.args.count ≡ c.args.count = omega arith in
    let b : min (c.args.i + 1) c.args.count ≡ c.args.count = omega arith in
    (refl, rw (a, b) (sym (filled_none _ _ _)))
