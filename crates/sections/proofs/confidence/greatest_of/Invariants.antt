-- `sections::confidence::greatest_of` meets its contract. The invariant: the greatest of what was found and of what is left is the whole's. Assumes
-- nothing.
use Rattle.std.proofs.Common.{◌≡◌, ◌-◌, ◌≤◌, length, drop}
use Rattle.sections.specs.Confidence.{lowest_float, greatest_from}
use Rattle.sections.proofs.confidence.greatest_of.Given as goal

abbrev pub invariant-loop-i : goal.invariant-loop-i
invariant-loop-i l = (l.i ≤ length l.values) × (greatest_from l.top (drop l.i l.values) ≡ greatest_from lowest_float l.values)
