-- `median::arrange` meets its contract. The invariant: the same entries, a heap below end, and from end on each entry where the sort has it.
-- A turn puts the heap's first entry, its greatest, at the end, and lets what came to the front sink. Assumes nothing.
use Prim.Native.Nat.{◌≤◌}
use lib.ListN.{length}
use Rattle.median.specs.Ranks.{Same}
use Rattle.median.specs.Heaps.{Heap, Done}
use Rattle.median.proofs.arrange.Given as goal

abbrev pub invariant-loop-end : goal.invariant-loop-end
invariant-loop-end l = Same l.a l.initial.a × Heap l.a 0 l.end × Done l.a l.end × (l.end ≤ length l.a)
