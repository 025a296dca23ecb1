-- `beat_links::bests::first_reaching` meets its contract. The invariant: no frame passed reaches the value. The first that reaches it is the first
-- greatest, and one does. Assumes nothing.
use mathlib.Core.Path.{◌≡◌}
use mathlib.Core.Bool.{false}
use Prim.Native.Nat.{ℕ, ◌≤◌, ◌<◌}
use lib.Ieee.{le}
use Rattle.beat_links.specs.Inner.{tabled}
use Rattle.beat_links.proofs.bests.first_reaching.Given as goal

abbrev pub invariant-loop-u : goal.invariant-loop-u
invariant-loop-u l =
    (l.at ≤ l.u) × (l.lo ≤ l.u) × ((i : ℕ) → l.at ≤ i → i < l.u → le l.value (tabled l.table l.score l.first l.lo i) ≡ false)
