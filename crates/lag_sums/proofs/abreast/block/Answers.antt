-- `lag_sums::abreast::block` meets its contract, by `block_is`. Assumes nothing.
use mathlib.Core.Path.{◌∙◌}
use Rattle.lag_sums.proofs.Lanes.{block_is}
use Rattle.lag_sums.proofs.abreast.block.Goals as goal

pub returns : goal.returns
returns c =
    c.thirty_two_run.ensures
    ∙ block_is c.args.envelope.now c.args.mean c.args.lag c.args.t c.args.sums _ _ c.requires.sums_value
    c.centre.ensures
    c.centre-2.ensures
