-- `threshold::fill_slots` meets its contract. The invariant: the slots up to t are written by the rule, both lists are as long as they were, and the
-- room to sort in is unchanged past its formula. Assumes nothing.
use mathlib.Core.Path.{◌≡◌}
use Prim.Native.Nat.{◌≤◌}
use lib.ListN.{length, drop}
use Rattle.numbers.specs.Lists.{filled}
use Rattle.threshold.specs.Threshold.{threshold_at, sorting_room}
use Rattle.threshold.proofs.fill_slots.Given as goal

abbrev pub invariant-loop-t : goal.invariant-loop-t
invariant-loop-t l =
    (l.from ≤ l.t) × (l.t ≤ l.past) × (length l.threshold ≡ length l.initial.threshold) × (length l.work ≡ length l.initial.work)
    × (l.threshold ≡ filled (threshold_at l.flux) l.initial.threshold l.from l.t)
    × (drop (sorting_room l.flux) l.work ≡ drop (sorting_room l.flux) l.initial.work)
