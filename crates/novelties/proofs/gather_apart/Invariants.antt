-- `novelties::gather_apart` meets its contract. The invariant: the first r slots of the distance are written, the others are as they were. Assumes
-- nothing.
use mathlib.Core.Path.{◌≡◌}
use Prim.Native.Nat.{◌+◌, ◌-◌, ◌*◌, ◌≤◌}
use lib.ListN.{length}
use Rattle.numbers.specs.Lists.{filled}
use Rattle.novelties.specs.Lanes.{laid_apart}
use Rattle.novelties.proofs.gather_apart.Given as goal

abbrev pub invariant-loop-r : goal.invariant-loop-r
invariant-loop-r l =
    (l.r ≤ 39) × (length l.near ≡ 640) × (l.near ≡ filled (laid_apart l.similarity l.first l.d) l.initial.near (l.d * 40) (l.d * 40 + l.r))
