-- `similarities::turn` meets its contract. The invariant: the values before value k stand in their places. A further value is written behind those
-- before it. Assumes nothing.
use mathlib.Core.Path.{◌≡◌}
use Prim.Native.Nat.{ℕ, ◌+◌, ◌*◌, ◌≤◌, ◌<◌}
use lib.ListN.{length, get_or}
use lib.Ieee.{nan}
use Rattle.similarities.proofs.turn.Given as goal

abbrev pub invariant-loop-k : goal.invariant-loop-k
invariant-loop-k l =
    (l.k ≤ 16)
    × (length l.turned ≡ 2048)
    × ((r k' : ℕ) → r < l.count → k' < l.k → get_or l.turned (k' * 128 + r) nan ≡ get_or l.features ((l.first + r) * 16 + k') nan)
