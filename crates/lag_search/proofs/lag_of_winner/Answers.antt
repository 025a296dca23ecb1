-- `lag_search::lag_of_winner` meets its contract: the winner is a slot of a list that has one. Assumes nothing.
use Prim.Native.Nat.{◌<◌}
use lib.ListN.{length}
use Rattle.lag_candidates.proofs.Winners.{winner_slot}
use Rattle.lag_search.proofs.Winners.{winner_lag_lem, no_winner_lag}
use borrow.Author.Rules.{rules}
use Rattle.lag_search.proofs.lag_of_winner.Goals as goal

pub offset_bounds-weight-winner : goal.offset_bounds-weight-winner
offset_bounds-weight-winner c =
    let h : c.winner_of-winner.result < length c.args.weight.now = winner_slot _ _ c.winner_of-winner.ensures c.requires.0 in
    search rules

pub bounds-weight-winner : goal.bounds-weight-winner
bounds-weight-winner c =
    let h : c.winner_of-winner.result < length c.args.weight.now =
    winner_slot _ _ c.winner_of-winner.ensures c.requires.0 in
    h

pub overflow_add-result : goal.overflow_add-result
overflow_add-result c =
    let h : c.winner_of-winner.result < length c.args.weight.now =
    winner_slot _ _ c.winner_of-winner.ensures c.requires.0 in
    search rules

pub returns-then-weight-winner : goal.returns-then-weight-winner
returns-then-weight-winner c = winner_lag_lem _ _ _ c.winner_of-winner.ensures c.if-weight-winner.true

pub returns : goal.returns
returns c = no_winner_lag _ _ _ c.winner_of-winner.ensures c.if-weight-winner.false
