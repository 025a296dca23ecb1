-- `windows::middle_distance` meets its contract. The invariant: the least of the farther ends of the runs from 0 up to j, and from 5 up to j + 5. Assumes
-- nothing.
use Prim.Native.Nat.{◌+◌, ◌≤◌}
use Rattle.windows.proofs.Spreads.{Least}
use Rattle.windows.proofs.middle_distance.Given as goal

abbrev pub invariant-loop-j : goal.invariant-loop-j
invariant-loop-j l = (1 ≤ l.j) × (l.j ≤ 5) × Least l.s 10 0 l.j l.low × Least l.s 10 5 (l.j + 5) l.high
