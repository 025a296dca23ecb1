-- `similarities::put_row` meets its contract. The invariant: the first d of the seventeen slots are written, the others are as they were. Assumes
-- nothing.
use mathlib.Core.Path.{◌≡◌}
use Prim.Native.Nat.{◌+◌, ◌≤◌}
use lib.ListN.{length}
use Rattle.numbers.specs.Lists.{filled}
use Rattle.similarities.specs.Lanes.{settled_from}
use Rattle.similarities.proofs.put_row.Given as goal

abbrev pub invariant-loop-d : goal.invariant-loop-d
invariant-loop-d l =
    (l.d ≤ 17) × (length l.similarity ≡ length l.initial.similarity) × (l.similarity ≡ filled (settled_from l.quotients l.norms l.c l.at) l.initial.similarity l.at (l.at + l.d))
