-- `lag_search::winning_lag` meets its contract: the weights whose winner is taken are the curve just written. Assumes nothing.
use Rattle.lag_search.proofs.Searches.{searched_flat, searched_written}
use Rattle.lag_search.proofs.winning_lag.Goals as goal

pub returns-then-ac0 : goal.returns-then-ac0
returns-then-ac0 c = searched_flat _ _ _ _ _ _ c.mean_of-mean.ensures c.energy_of-ac0.ensures _ _ c.if-ac0.true

pub returns : goal.returns
returns c =
    searched_written _ _ _ _ _ _ c.mean_of-mean.ensures c.energy_of-ac0.ensures _ _ _ _ _ c.if-ac0.false
    c.fill_lag_curves.ensures.clarity_after
    c.fill_lag_curves.ensures.weight_after
    _
    c.lag_slots-room.ensures
    c.lag_of_winner.ensures
