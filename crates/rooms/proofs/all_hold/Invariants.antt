-- `rooms::all_hold` meets its contract. The invariant: the test of the whole list is the test of what is left. Assumes nothing.
use mathlib.Core.Path.{◌≡◌}
use Prim.Native.Nat.{◌≤◌}
use lib.Dec.{leb}
use lib.ListN.{length, drop}
use Rattle.numbers.specs.Lists.{every}
use Rattle.rooms.proofs.all_hold.Given as goal

abbrev pub invariant-loop-i : goal.invariant-loop-i
invariant-loop-i l = (l.i ≤ length l.lengths) × (every (leb l.slots) l.lengths ≡ every (leb l.slots) (drop l.i l.lengths))
