-- `onsets::peaks::suppress` meets its contract. The invariant: the bests that are listed, and what follows of the peaks that are left, are the whole
-- (`Going`); the peaks that are left ascend from the open group's best on; and no more is listed than peaks were passed, so that there is room. Assumes
-- nothing.
use mathlib.Core.Bool.{true}
use mathlib.Core.Path.{◌≡◌}
use Prim.Native.Nat.{◌+◌, ◌≤◌, ◌<◌}
use lib.ListN.{length, drop}
use Rattle.std.specs.Prelude.{is_some, unwrap_or}
use Rattle.numbers.specs.Lists.{one_if, ascending}
use Rattle.onsets.specs.Peaks.{suppressed}
use Rattle.onsets.specs.Steps.{Going}
use Rattle.onsets.proofs.peaks.suppress.Given as goal

abbrev pub invariant-loop-i : goal.invariant-loop-i
invariant-loop-i l =
    (l.i ≤ length l.peaks) × (length l.frames ≡ length l.initial.frames) × (l.group.count + one_if (is_some l.group.best) ≤ l.i)
    × (unwrap_or l.group.best 0 < 4294967296) × (ascending (unwrap_or l.group.best 0) (drop l.i l.peaks) ≡ true)
    × Going l.curve l.gap (suppressed l.curve l.gap l.peaks) (drop l.i l.peaks) l.initial.frames l.group l.frames
