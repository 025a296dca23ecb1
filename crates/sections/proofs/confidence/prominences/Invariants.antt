-- `sections::confidence::prominences` meets its contract. The invariant: the sum so far and the sum of what is left is the whole sum. Assumes nothing.
use Rattle.std.proofs.Common.{◌≡◌, ◌-◌, ◌≤◌, map, length, drop}
use Rattle.numbers.specs.Rounded.{sum_from, sum_of}
use Rattle.sections.specs.Confidence.{prominence}
use Rattle.sections.proofs.confidence.prominences.Given as goal

abbrev pub invariant-loop-i : goal.invariant-loop-i
invariant-loop-i l = (l.i ≤ length l.rows) ×
    (sum_from l.sum (map (prominence l.novelty l.med) (drop l.i l.rows)) ≡ sum_of (map (prominence l.novelty l.med) l.rows))
