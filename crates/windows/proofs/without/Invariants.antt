-- `windows::without` meets its contract. The invariant: the first i slots are written. Assumes nothing.
use mathlib.Core.Path.{◌≡◌}
use Prim.Native.Nat.{◌≤◌}
use lib.ListN.{length}
use Rattle.numbers.specs.Lists.{filled}
use Rattle.windows.specs.Windows.{without_at}
use Rattle.windows.proofs.without.Given as goal

abbrev pub invariant-loop-i : goal.invariant-loop-i
invariant-loop-i l = (l.i ≤ 20) × (length l.rest ≡ 20) × (l.rest ≡ filled (without_at l.s l.o) l.initial.rest 0 l.i)
