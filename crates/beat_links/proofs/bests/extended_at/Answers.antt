-- `beat_links::bests::extended_at` meets its contract. Assumes nothing.
use mathlib.Core.Path.{ap}
use lib.ListN.{get_or}
use lib.Ieee.{Float, nan}
use Rattle.numbers.specs.Rounded.{◌⊕◌}
use Rattle.beat_links.specs.Extensions.{extended}
use Rattle.beat_links.proofs.bests.extended_at.Goals as goal

pub returns : goal.returns
unfolding extended
returns c =
    let a = c.args in
    ap (λ (x : Float). get_or a.score.now a.u nan ⊕ x) c.penalty_of.ensures
