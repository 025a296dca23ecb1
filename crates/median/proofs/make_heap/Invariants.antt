-- `median::make_heap` meets its contract. The invariant: the same entries, a heap from start on; entries of the upper half have no children, so it
-- holds at first. Assumes nothing.
use mathlib.Core.Path.{◌≡◌}
use lib.ListN.{length}
use Rattle.median.specs.Ranks.{Same}
use Rattle.median.specs.Heaps.{Heap}
use Rattle.median.proofs.make_heap.Given as goal

abbrev pub invariant-loop-start : goal.invariant-loop-start
invariant-loop-start l = Same l.a l.initial.a × Heap l.a l.start l.n × (l.n ≡ length l.initial.a)
