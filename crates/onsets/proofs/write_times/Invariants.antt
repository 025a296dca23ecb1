-- `onsets::write_times` meets its contract. The invariant: the slots up to i are written by the rule, and the list is as long as it was. Slot by slot is
-- entry by entry (`filled-map`). Assumes nothing.
use mathlib.Core.Path.{◌≡◌}
use Prim.Native.Nat.{ℕ, ◌≤◌}
use lib.ListN.{length, get_or}
use Rattle.numbers.specs.Lists.{filled}
use Rattle.onsets.specs.Onsets.{frame_time}
use Rattle.onsets.proofs.write_times.Given as goal

abbrev pub invariant-loop-i : goal.invariant-loop-i
invariant-loop-i l =
    (l.i ≤ length l.frames) × (length l.ms ≡ length l.initial.ms) × (l.ms ≡ filled (λ (k : ℕ). frame_time l.rate (get_or l.frames k 0)) l.initial.ms 0 l.i)
