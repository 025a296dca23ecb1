-- `track::analyse` meets its contract: what each part leaves is what the next one asks for (`ready`), and together they are the definition's
-- (`analysed_by`). Assumes nothing.
use mathlib.Core.Path.{refl, ◌∙◌}
use native.Mathlib.Omega.{arith}
use Rattle.track.proofs.Whole.{estimate-ok, lag_most, work_long, analysed_by}
use Rattle.track.proofs.analyse.Goals as goal

pub unwrap-found-requires : goal.unwrap-found-requires
unwrap-found-requires c =
    estimate-ok _ _ _ _ _ _ _ _ _ _ _ _ _ _ c.requires _ _ _ _ c.list_onsets-heard.ensures _ _ _ _ c.estimate.ensures _ refl

pub follow-after-requires : goal.follow-after-requires
follow-after-requires c =
    let r = c.requires in
    let found = rw c.unwrap-found.ensures at c.estimate.ensures in
    let long = work_long _ _ _ _ _ _ _ _ _ _ _ _ _ _ r _ _ _ _ c.list_onsets-heard.ensures _ _ _ _ found in record {
      envelope_len_bound = (
        r.rows,
        r.values,
        lag_most _ _ _ _ _ _ _ _ _ _ _ _ _ _ r _ _ _ _ c.list_onsets-heard.ensures _ _ _ _ found _
            c.winners_lag-lag.ensures,
        r.bounds,
      );
      envelope_in_bounds = (r.scores, r.links, r.beat_lists, r.downbeat_lists);
      opts_in_bounds = (r.window_clarities, r.window_weights, omega (arith, r.lag_works, long));
    }

pub shape_of-threshold : goal.shape_of-threshold
shape_of-threshold c = c.list_onsets-heard.auto.threshold

pub shape_of-onsets : goal.shape_of-onsets
shape_of-onsets c = c.list_onsets-heard.auto.frames

pub shape_of-clarity : goal.shape_of-clarity
shape_of-clarity c = c.estimate.auto.clarity

pub shape_of-weight : goal.shape_of-weight
shape_of-weight c = c.estimate.auto.weight

pub shape_of-window_clarity : goal.shape_of-window_clarity
shape_of-window_clarity c = c.follow-after.auto.clarity

pub shape_of-window_weight : goal.shape_of-window_weight
shape_of-window_weight c = c.follow-after.auto.weight

pub shape_of-score : goal.shape_of-score
shape_of-score c = c.follow-after.auto.score

pub shape_of-back : goal.shape_of-back
shape_of-back c = c.follow-after.auto.back

pub shape_of-beats : goal.shape_of-beats
shape_of-beats c = c.follow-after.auto.frames

pub shape_of-downbeats : goal.shape_of-downbeats
shape_of-downbeats c = c.follow-after.auto.downbeats

pub shape_of-work : goal.shape_of-work
shape_of-work c = c.follow-after.auto.work ∙ c.estimate.auto.work ∙ c.list_onsets-heard.auto.work

pub returns : goal.returns
returns c =
    let r = c.requires in
    let found = rw c.unwrap-found.ensures at c.estimate.ensures in
    analysed_by _ _ _ _ _ _ _ _ _ _ _ _ _ _ r _ _ _ _ c.list_onsets-heard.ensures _ _ _ _ found _ c.winners_lag-lag.ensures _ _ _ _ _ _
    _ _ c.follow-after.ensures
