-- `tempo::tempo_in` meets its contract: what is lent to `found` is the curves just written, and its winner is that of the search.
-- Assumes nothing.
use mathlib.Core.Path.{sym, ◌∙◌}
use Rattle.tempo.proofs.Tells.{long_enough, told_unsearched, told_none, lag_is, found_asks, told-found}
use borrow.Author.Rules.{rules}
use Rattle.tempo.proofs.tempo_in.Goals as goal

pub returns-then-too_little : goal.returns-then-too_little
returns-then-too_little c = told_unsearched _ _ _ _ _ _ _ _ (sym c.too_little.ensures ∙ c.if-too_little.true) c.without_tempo.ensures

pub winning_lag-lag-requires : goal.winning_lag-lag-requires
winning_lag-lag-requires c =
    let h = long_enough _ _ _ (sym c.too_little.ensures ∙ c.if-too_little.false) in
    search rules

pub returns-then-lag-eq0 : goal.returns-then-lag-eq0
returns-then-lag-eq0 c =
    told_none _ _ _ _ _ _ _ _ _ _ c.winning_lag-lag.ensures
    (sym c.too_little.ensures
    ∙ c.if-too_little.false) _
    c.requires.le_min_lag.0
    c.if-lag-eq0.true c.without_tempo-then-lag-eq0.ensures

pub overflow_sub-lag : goal.overflow_sub-lag
overflow_sub-lag c =
    let h = lag_is _ _ _ _ _ _ _ _ _ _ c.winning_lag-lag.ensures
    (sym c.too_little.ensures
    ∙ c.if-too_little.false)
    c.if-lag-eq0.false in
    search rules

pub found-requires : goal.found-requires
found-requires c =
    let p = found_asks _ _ _ _ _ _ _ _ _ _ c.winning_lag-lag.ensures
    (sym c.too_little.ensures
    ∙ c.if-too_little.false)
    c.if-lag-eq0.false _ c.lag_slots-room.ensures
    c.requires.le_min_lag.0
    c.requires.le_min_lag.1
    c.requires.le_min_lag.2 in
    record { winner_value = p.0; le_min_lag = p.1 }

pub returns : goal.returns
returns c =
    told-found _ _ _ _ _ _ _ _ _ _ c.winning_lag-lag.ensures
    (sym c.too_little.ensures ∙ c.if-too_little.false)
    c.if-lag-eq0.false _ c.lag_slots-room.ensures _ c.found.ensures
