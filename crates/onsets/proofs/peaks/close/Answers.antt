-- `onsets::peaks::close` meets its contract: with no peak left, what was kept and the open group's best are the whole. Assumes nothing.
use mathlib.Core.Path.{◌≡◌}
use native.Mathlib.Omega.{arith}
use Rattle.std.specs.Prelude.{is_some}
use Rattle.numbers.specs.Lists.{one_if}
use Rattle.onsets.proofs.Steps.{closed_none, closed_last}
use Rattle.onsets.proofs.peaks.close.Goals as goal

pub returns-in_default : goal.returns-in_default
returns-in_default c = closed_none _ _ c.in_default.is

-- an open group has a slot
pub returns : goal.returns
returns c =
    let a : one_if (is_some c.args.group.best) ≡ 1 = rw c.in-Some.is in
    closed_last _ _ _ c.in-Some.is (omega arith)
