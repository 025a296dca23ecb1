-- `lag_sums::abreast::thirty_two_run` meets its contract: each eight is the definition's. Assumes nothing.
use Rattle.lag_sums.specs.Lanes.{thirty_two_run}
use Rattle.lag_sums.proofs.abreast.thirty_two_run.Goals as goal

pub returns : goal.returns
unfolding thirty_two_run
returns c =
    let low = c.sixteen_run-low.ensures in
    let high = c.sixteen_run-high.ensures in
    rw (low.0, low.1, high.0, high.1)
