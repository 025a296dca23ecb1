-- `beat_links::bests::lane_at` meets its contract. Assumes nothing.
use mathlib.Core.Path.{ap, ◌∙◌}
use lib.Ieee.{Float}
use Rattle.numbers.specs.Rounded.{nought}
use Rattle.beat_links.specs.Inner.{larger, lane}
use Rattle.beat_links.proofs.bests.lane_at.Goals as goal

pub returns : goal.returns
unfolding lane
returns c =
    c.up-2.ensures
    ∙ ap (λ (x : Float). larger x c.tabled_at-2.result) (c.up.ensures ∙ ap (larger nought) c.tabled_at.ensures)
    ∙ ap (larger _) c.tabled_at-2.ensures
