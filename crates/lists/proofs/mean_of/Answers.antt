-- `lists::mean_of` meets its contract. Assumes nothing.
use Rattle.std.proofs.Common.{ap, ◌∙◌}
use lib.Ieee.{Float}
use Rattle.numbers.specs.Rounded.{◌⊘◌, sum_of}
use Rattle.lists.specs.Means.{mean_of}
use Rattle.lists.proofs.mean_of.Goals as goal

pub returns : goal.returns
unfolding mean_of
returns c =
    ap (λ (x : Float). x ⊘ c.float_of.result) c.sum_of.ensures
    ∙ ap (λ (x : Float). sum_of c.args.xs.now ⊘ x) c.float_of.ensures
