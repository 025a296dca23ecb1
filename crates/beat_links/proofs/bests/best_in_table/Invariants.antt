-- `beat_links::bests::best_in_table` meets its contract. The invariant: what is left to search, searched from the best so far, is the whole answer.
-- Assumes nothing.
use mathlib.Core.Path.{◌≡◌}
use Prim.Native.Nat.{◌≤◌, ◌-◌}
use Rattle.lists.specs.Greatest.{greatest}
use Rattle.beat_links.specs.Extensions.{unlinked}
use Rattle.beat_links.specs.Inner.{tabled}
use Rattle.lists.proofs.Greatest.{best}
use Rattle.beat_links.proofs.bests.best_in_table.Given as goal

abbrev pub invariant-loop-u : goal.invariant-loop-u
invariant-loop-u l =
    (l.lo ≤ l.u) × (greatest (tabled l.table l.score l.first l.lo) l.u (l.end - l.u) (best l.value l.at) ≡ greatest (tabled l.table l.score l.first l.lo) l.lo (l.end - l.lo) unlinked)
