-- `beat_links::penalties::penalty_of` meets its contract: the definition's own operations, in its order. Assumes nothing.
use mathlib.Core.Path.{ap, ◌∙◌}
use lib.Ieee.{Float, neg}
use Rattle.numbers.specs.Rounded.{◌⊗◌, ◌⊘◌, real}
use Rattle.floats.specs.Logs.{log_of}
use Rattle.beat_links.specs.Extensions.{four_hundred, penalty}
use Rattle.beat_links.proofs.penalties.penalty_of.Goals as goal

pub returns : goal.returns
unfolding penalty
returns c =
    ap (λ (ln : Float). neg four_hundred ⊗ ln ⊗ ln)
    (c.log-ln.ensures ∙ ap (λ (x : Float). log_of (x ⊘ c.float_of-2.result)) c.float_of.ensures
    ∙ ap (λ (x : Float). log_of (real c.args.interval ⊘ x)) c.float_of-2.ensures)
