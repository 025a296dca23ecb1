-- `windows::among` meets its contract. The invariant: the slots from 1 up to i are written; the first and the last stand apart, since one of the two
-- entries that they lie between is missing. Assumes nothing.
use Prim.Native.Nat.{◌≤◌}
use mathlib.Core.Path.{◌≡◌}
use lib.ListN.{length}
use Rattle.numbers.specs.Lists.{filled}
use Rattle.windows.specs.Windows.{among_at}
use Rattle.windows.proofs.among.Given as goal

abbrev pub invariant-loop-i : goal.invariant-loop-i
invariant-loop-i l = (1 ≤ l.i) × (l.i ≤ 20) × (length l.s ≡ 21) × (l.s ≡ filled (among_at l.rest l.v) l.initial.s 1 l.i)
