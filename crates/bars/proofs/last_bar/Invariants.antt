-- `bars::last_bar` meets its contract. The invariant: the last of the first k downbeats that the limit reaches is the last of all. Assumes nothing.
use mathlib.Core.Path.{◌≡◌}
use Prim.Native.Nat.{◌≤◌}
use lib.ListN.{length}
use Rattle.bars.specs.BarBeats.{last_bar}
use Rattle.bars.proofs.last_bar.Given as goal

abbrev pub invariant-loop-k : goal.invariant-loop-k
invariant-loop-k l = (l.k ≤ length l.downbeats) × (last_bar l.limit l.downbeats l.k ≡ last_bar l.limit l.downbeats (length l.downbeats))
