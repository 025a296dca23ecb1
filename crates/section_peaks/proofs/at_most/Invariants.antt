-- `section_peaks::at_most` meets its contract. The invariant: what was counted and the count of what is left is the whole count. Assumes nothing.
use mathlib.Core.Path.{◌≡◌}
use Prim.Native.Nat.{suc, ◌+◌, ◌≤◌}
use lib.ListN.{drop}
use Rattle.floats.specs.TotalOrder.{key}
use Rattle.median.specs.Ranks.{below}
use Rattle.section_peaks.proofs.at_most.Given as goal

abbrev pub invariant-loop-x : goal.invariant-loop-x
invariant-loop-x l = (l.n ≤ l.x-index) × (l.n + below (suc (key l.level)) (drop l.x-index l.values) ≡ below (suc (key l.level)) l.values)
