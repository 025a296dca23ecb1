-- `threshold::adaptive_threshold` meets its contract: a refusal returns at once, and without one all holds that the inner call asks
-- (`threshold-told`). Assumes nothing.
use mathlib.Core.Path.{sym}
use native.Mathlib.Omega.{arith}
use Rattle.numbers.proofs.Outcomes.{written_on, written-done, open_same, open_answered}
use Rattle.threshold.proofs.Thresholds.{threshold-told}
use Rattle.threshold.proofs.adaptive_threshold.Goals as goal

pub returns-in_err-refusal : goal.returns-in_err-refusal
returns-in_err-refusal c =
    record {
      curve = written_on _ _ _ _ _ c.from_residual.ensures.1 c.in_err-refusal.ensures;
      works = open_same _ _;
    }

pub fill_threshold-requires : goal.fill_threshold-requires
fill_threshold-requires c =
    let told = threshold-told _ _ _ (sym c.in_ok-refusal.ensures) in
    (omega arith, omega arith, told.has_room, told.has_work)

pub returns : goal.returns
returns c =
    let z = sym c.in_ok-refusal.ensures in
    record {
      curve = written-done _ _ _ _ z c.fill_threshold.ensures.threshold_after;
      works = open_answered _ _ _ _ z (record { same_length = c.fill_threshold.auto.work; kept = c.fill_threshold.ensures.work_unchanged });
    }
