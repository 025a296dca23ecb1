-- `similarities::put_block` meets its contract. The invariant: the slots of the rows before i are written by the rule, the others are as they were.
-- Assumes nothing.
use mathlib.Core.Path.{◌≡◌}
use Prim.Native.Nat.{◌*◌, ◌≤◌}
use lib.ListN.{length}
use Rattle.numbers.specs.Lists.{filled}
use Rattle.row_pairs.specs.Pairs.{similarity_at}
use Rattle.similarities.proofs.put_block.Given as goal

abbrev pub invariant-loop-i : goal.invariant-loop-i
invariant-loop-i l =
    (l.first ≤ l.i)
    × (l.i ≤ l.past)
    × (length l.similarity ≡ length l.initial.similarity)
    × (l.similarity ≡ filled (similarity_at l.features l.rows) l.initial.similarity (l.first * 17) (l.i * 17))
