-- `novelties::fill_blocks` meets its contract. The invariant: the slots before i are written by the rule, the others are as they were. The measure is
-- what is left up to `past`. While a row is left, a block that holds it lies inside, and ends after it. Assumes nothing.
use mathlib.Core.Path.{◌≡◌}
use Prim.Native.Nat.{◌-◌, ◌≤◌}
use lib.ListN.{length}
use Rattle.numbers.specs.Lists.{filled}
use Rattle.novelties.specs.Novelty.{novelty_at}
use Rattle.novelties.proofs.fill_blocks.Given as goal

abbrev pub invariant-loop-i : goal.invariant-loop-i
invariant-loop-i l =
    (l.from ≤ l.i) × (l.i ≤ l.past) × (length l.novelty ≡ length l.initial.novelty) × (l.novelty ≡ filled (novelty_at l.similarity l.rows) l.initial.novelty l.from l.i) × (length l.near ≡ 640)

abbrev pub decreases-loop-i : goal.decreases-loop-i
decreases-loop-i l = l.past - l.i
