-- `feature_parts::greatest_class` meets its contract. The invariant: the greatest so far and of those that are left is the greatest of all. Assumes
-- nothing.
use Prim.Native.Nat.{◌-◌, ◌≤◌}
use mathlib.Core.Path.{◌≡◌}
use Rattle.numbers.specs.Lists.{tab, curve}
use Rattle.feature_parts.specs.Parts.{greatest_of, lane_sum}
use Rattle.sections.specs.Confidence.{greatest_from}
use Rattle.feature_parts.proofs.greatest_class.Given as goal

abbrev pub invariant-loop-p : goal.invariant-loop-p
invariant-loop-p l = (l.p ≤ 12) × (greatest_from l.top (tab (lane_sum l.classes l.lane) l.p (12 - l.p)) ≡ greatest_of (curve (lane_sum l.classes l.lane) 12))
