-- `stability::windows::window_lag` meets its contract: the clarities just written, weighed by the priors of a rate, are the weight curve at
-- that rate. Assumes nothing.
use Rattle.stability.proofs.Parts.{window-flat, window-written}
use Rattle.stability.proofs.windows.window_lag.Goals as goal

pub returns-then-ac0 : goal.returns-then-ac0
returns-then-ac0 c = window-flat _ _ _ _ _ _ c.mean_of-mean.ensures c.energy_of-ac0.ensures _ _ c.if-ac0.true

pub returns : goal.returns
returns c =
    window-written _ _ _ _ _ _ c.mean_of-mean.ensures c.energy_of-ac0.ensures _ _ _ _ _ _ c.if-ac0.false
    c.lag_slots-room.ensures
    c.requires.max_lag_in_bounds.1
    c.requires.max_lag_in_bounds.2
    c.fill_clarity.ensures
    c.weigh.ensures
    c.lag_of_winner.ensures
