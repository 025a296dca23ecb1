-- `patch_magnitudes::mending::mend_threshold` meets its contract: the part of the flux that is lent on is its first `rows` slots (`lent`). Assumes nothing.
use mathlib.Core.Path.{◌≡◌, ◌∙◌}
use Prim.Native.Nat.{◌-◌}
use native.Mathlib.Nat.{sub-zero}
use native.Mathlib.Omega.{arith}
use lib.ListN.{length, take}
use lib.Seq.{length-take-le}
use Rattle.patch_magnitudes.proofs.mending.mend_threshold.Goals.{Start}
use Rattle.patch_magnitudes.proofs.mending.mend_threshold.Goals as goal

lent : (c : Start) → length (take (c.args.rows - 0) c.args.flux.now) ≡ c.args.rows
lent c = length-take-le (c.args.rows - 0) c.args.flux.now (omega arith) ∙ sub-zero c.args.rows

pub returns : goal.returns
returns c =
    let f = c.fill_threshold in record {
      first_value = (
        c.saturating_sub-threshold_first.ensures,
        c.min-threshold_past.ensures,
      );
      threshold_after = rw (sub-zero c.args.rows) at f.ensures.threshold_after;
      work_unchanged = rw (lent (goal.at.returns c).Start) at f.ensures.work_unchanged;
    }
