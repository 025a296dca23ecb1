-- `novelties::fill_plain` meets its contract. The invariant: the slots before i are written by the rule, the others are as they were. Assumes nothing.
use mathlib.Core.Path.{◌≡◌}
use Prim.Native.Nat.{◌≤◌, ◌-◌}
use lib.ListN.{length}
use Rattle.numbers.specs.Lists.{filled}
use Rattle.novelties.specs.Novelty.{novelty_at}
use Rattle.novelties.proofs.fill_plain.Given as goal

abbrev pub invariant-loop-i : goal.invariant-loop-i
invariant-loop-i l =
    (l.from ≤ l.i) × (l.i ≤ l.past) × (length l.novelty ≡ length l.initial.novelty) × (l.novelty ≡ filled (novelty_at l.similarity l.rows) l.initial.novelty l.from l.i)
