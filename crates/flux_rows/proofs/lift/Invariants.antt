-- `flux_rows::lift` meets its contract. The invariant: the slots up to k are written by the rule, and the list is as long as it was. Assumes nothing.
use mathlib.Core.Path.{◌≡◌}
use Prim.Native.Nat.{ℕ, ◌+◌, ◌≤◌}
use lib.ListN.{length}
use Rattle.numbers.specs.Lists.{filled}
use Rattle.flux_rows.specs.Rises.{rise_at}
use Rattle.flux_rows.proofs.lift.Given as goal

abbrev pub invariant-loop-k : goal.invariant-loop-k
invariant-loop-k l = (l.k ≤ length l.initial.part) × (length l.part ≡ length l.initial.part) × (l.part ≡ filled (λ (j : ℕ). rise_at l.prev l.cur (l.from + j)) l.initial.part 0 l.k)
