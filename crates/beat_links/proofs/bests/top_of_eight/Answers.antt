-- `beat_links::bests::top_of_eight` meets its contract. Assumes nothing.
use mathlib.Core.Path.{◌≡◌, ap, ◌∙◌}
use lib.Ieee.{Float}
use Rattle.beat_links.specs.Inner.{larger, top_of_eight}
use Rattle.beat_links.proofs.bests.top_of_eight.Goals as goal

both : {v v' w w' : Float} → v ≡ v' → w ≡ w' → larger v w ≡ larger v' w'
both {v} {v'} {w} {w'} p q = ap (λ (x : Float). larger x w) p ∙ ap (larger v') q

pub returns : goal.returns
unfolding top_of_eight
returns c =
    c.up-3.ensures
    ∙ both (c.up.ensures ∙ both c.lane_at-a.ensures c.lane_at-c.ensures) (c.up-2.ensures ∙ both c.lane_at-b.ensures c.lane_at-d.ensures)
