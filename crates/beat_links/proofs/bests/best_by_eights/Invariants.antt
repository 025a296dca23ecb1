-- `beat_links::bests::best_by_eights` meets its contract. The invariant: of the frames passed, none has an extension above 0, or the value is their
-- greatest and none before the eight at `at` has it. The measure is how many frames are left. Assumes nothing.
use Prim.Native.Nat.{◌+◌, ◌-◌, ◌≤◌, min}
use Rattle.beat_links.specs.Inner.{tabled}
use Rattle.beat_links.proofs.Eights.{Scan}
use Rattle.beat_links.proofs.bests.best_by_eights.Given as goal

abbrev pub invariant-loop-u : goal.invariant-loop-u
invariant-loop-u l =
    (l.lo ≤ l.u) × (l.u ≤ l.end + 7) × Scan (tabled l.table l.score l.first l.lo) l.lo (min l.u l.end) l.end l.value l.at

abbrev pub decreases-loop-u : goal.decreases-loop-u
decreases-loop-u l = l.end - l.u
