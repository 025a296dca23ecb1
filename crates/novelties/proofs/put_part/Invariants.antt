-- `novelties::put_part` meets its contract. The invariant: the slots before k are written from the lanes, the others are as they were. Assumes nothing.
use mathlib.Core.Path.{◌≡◌}
use Prim.Native.Nat.{◌-◌, ◌≤◌}
use lib.ListN.{length}
use Rattle.numbers.specs.Lists.{filled}
use Rattle.novelties.specs.Lanes.{lane_from}
use Rattle.novelties.proofs.put_part.Given as goal

abbrev pub invariant-loop-k : goal.invariant-loop-k
invariant-loop-k l =
    (l.from ≤ l.k) × (l.k ≤ l.past) × (length l.novelty ≡ length l.initial.novelty) × (l.novelty ≡ filled (lane_from l.values l.first) l.initial.novelty l.from l.k)
