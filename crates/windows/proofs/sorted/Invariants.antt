-- `windows::sorted` meets its contract. The invariant: the first i values are written. Assumes nothing.
use Prim.Native.Nat.{ℕ, ◌≤◌}
use mathlib.Core.Path.{◌≡◌}
use mathlib.Core.List.{List}
use lib.ListN.{length, get_or}
use lib.Ieee.{Float, nan}
use Rattle.numbers.specs.Lists.{filled}
use Rattle.windows.specs.Windows.{one_zero}
use Rattle.windows.proofs.sorted.Given as goal

abbrev pub rule : List Float → ℕ → Float
rule xs i = one_zero (get_or xs i nan)

abbrev pub invariant-loop-i : goal.invariant-loop-i
invariant-loop-i l = (l.i ≤ 21) × (length l.s ≡ 21) × (l.s ≡ filled (rule l.values) l.initial.s 0 l.i)
