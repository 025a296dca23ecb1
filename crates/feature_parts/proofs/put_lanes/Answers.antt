-- `feature_parts::put_lanes` meets its contract: one lane after the other. Assumes nothing.
use mathlib.Core.Path.{ap, ◌∙◌}
use Rattle.feature_parts.specs.Parts.{lane_filled, lanes_filled}
use Rattle.feature_parts.proofs.put_lanes.Goals as goal

pub returns : goal.returns
unfolding lanes_filled
returns c =
    c.put_lane-4.ensures.1
    ∙ ap (lane_filled _ _ 3 _ _ _)
    (c.put_lane-3.ensures.1 ∙ ap (lane_filled _ _ 2 _ _ _) (c.put_lane-2.ensures.1 ∙ ap (lane_filled _ _ 1 _ _ _) c.put_lane.ensures.1))
