-- `feature_sums::most_rows` meets its contract: no lane's count is above the greatest. Assumes nothing.
use Rattle.feature_sums.proofs.Steps.{most_of}
use Rattle.feature_sums.proofs.most_rows.Goals as goal

pub returns : goal.returns
returns c =
    let o = c.requires in
    most_of _ _ _ _ _ _ _ _ o.0 o.1 o.2 o.3 c.max-first.ensures c.max-last.ensures c.max.ensures
