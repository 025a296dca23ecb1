-- `tempo::found` meets its contract: the law of the scan says which slots are accepted, by whether a second and a third stand apart.
-- Assumes nothing.
use Prim.Native.Nat.{◌<◌}
use lib.ListN.{length}
use Rattle.lag_candidates.proofs.Rankings.{first_slot}
use Rattle.lag_candidates.proofs.Accepts.{one_candidate, two_candidates, three_candidates}
use Rattle.tempo.proofs.Answers.{found-one, found-two, found_three}
use borrow.Author.Rules.{rules}
use Rattle.tempo.proofs.found.Goals as goal

pub returns-then-b-weight : goal.returns-then-b-weight
returns-then-b-weight c =
    found-one _ _ _ _ _ _ _ c.requires.winner_value.0 c.candidate_at-first.ensures c.bpm_at.ensures
    (one_candidate _ _ _ c.requires.winner_value.0 c.requires.le_min_lag.0 c.requires.le_min_lag.1 _ c.first_apart-b.ensures c.if-b-weight.true)

pub candidate_at-second-requires : goal.candidate_at-second-requires
candidate_at-second-requires c =
    let h : c.first_apart-b.result < length c.args.weight.now =
    first_slot _ _ _ c.first_apart-b.ensures c.if-b-weight.false in
    search rules

pub first_apart-c-requires : goal.first_apart-c-requires
first_apart-c-requires c =
    let h : c.first_apart-b.result < length c.args.weight.now =
    first_slot _ _ _ c.first_apart-b.ensures c.if-b-weight.false in
    search rules

pub returns-then-c-weight : goal.returns-then-c-weight
returns-then-c-weight c =
    found-two _ _ _ _ _ _ _ c.requires.winner_value.0 c.candidate_at-first.ensures c.bpm_at.ensures _ _
    c.candidate_at-second.ensures
    (two_candidates _ _ _ c.requires.winner_value.0 c.requires.le_min_lag.0 c.requires.le_min_lag.1 _ c.first_apart-b.ensures c.if-b-weight.false _
    c.first_apart-c.ensures
    c.if-c-weight.true)

pub candidate_at-third-requires : goal.candidate_at-third-requires
candidate_at-third-requires c =
    let h : c.first_apart-c.result < length c.args.weight.now =
    first_slot _ _ _ c.first_apart-c.ensures c.if-c-weight.false in
    search rules

pub returns : goal.returns
returns c =
    found_three _ _ _ _ _ _ _ c.requires.winner_value.0 c.candidate_at-first.ensures c.bpm_at.ensures _ _
    c.candidate_at-second.ensures
    _
    _
    c.candidate_at-third.ensures
    (three_candidates _ _ _ c.requires.winner_value.0 c.requires.le_min_lag.0 c.requires.le_min_lag.1 _ c.first_apart-b.ensures c.if-b-weight.false _
    c.first_apart-c.ensures
    c.if-c-weight.false)
