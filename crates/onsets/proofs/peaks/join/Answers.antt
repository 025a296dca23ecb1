-- `onsets::peaks::join` meets its contract: each way is one clause of the definition, in `Steps`: a peak opens the first group, joins the open one,
-- or opens the next one, and then the best of the one before it is listed. Assumes nothing.
use mathlib.Core.Path.{◌≡◌, refl}
use native.Mathlib.Nat.{le_refl}
use native.Mathlib.Omega.{arith}
use borrow.Author.Tests.{le-leb, lt-leb}
use Rattle.std.specs.Prelude.{unwrap_or}
use Rattle.numbers.proofs.Tests.{pick_true, pick-false}
use Rattle.onsets.proofs.Steps.{stepped_open, stepped_join, stepped_close}
use Rattle.onsets.proofs.peaks.join.Goals as goal

pub returns-in_default : goal.returns-in_default
returns-in_default c =
    stepped_open _ _ c.args.group _ _ _ c.in_default.is refl refl

pub returns-then-curve-peak : goal.returns-then-curve-peak
returns-then-curve-peak c =
    stepped_join _ _ c.args.group _ _ _ _ _ c.in-Some.is
    (le-leb _ _ c.if-peak-best.true) (pick_true _ _ _ c.if-curve-peak.true) (le_refl _) refl refl

pub returns-then-peak-best : goal.returns-then-peak-best
returns-then-peak-best c =
    let a : unwrap_or c.args.group.best 0 ≡ c.in-Some.best = rw c.in-Some.is in
    stepped_join _ _ c.args.group _ _ _ _ _ c.in-Some.is
    (le-leb _ _ c.if-peak-best.true) (pick-false _ _ _ c.if-curve-peak.false) (omega arith) c.in-Some.is refl

pub returns : goal.returns
returns c =
    stepped_close _ _ c.args.group _ _ _ _ c.in-Some.is (lt-leb _ _ c.if-peak-best.false) (omega arith) refl refl
