-- `patches::put_over` meets its contract. The invariant: the first j new entries are written over the old ones (`paste`), and the list is as long as
-- it was. Assumes nothing.
use mathlib.Core.Path.{◌≡◌}
use lib.ListN.{length}
use lib.Seq.{paste}
use Rattle.patches.proofs.put_over.Given as goal

abbrev pub invariant-loop-j : goal.invariant-loop-j
invariant-loop-j g l = (length l.old ≡ length l.initial.old) × (l.old ≡ paste l.initial.old l.at l.new l.j)
