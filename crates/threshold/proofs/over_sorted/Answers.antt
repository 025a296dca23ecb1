-- `threshold::over_sorted` meets its contract, from what `middle_distance` ensures. Assumes nothing.
use Rattle.threshold.specs.Sliding.{sorted_threshold}
use Rattle.threshold.proofs.over_sorted.Goals as goal

pub returns : goal.returns
unfolding sorted_threshold
returns c = rw c.middle_distance.ensures
