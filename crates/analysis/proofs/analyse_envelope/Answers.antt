-- `analysis::analyse_envelope` meets its contract: a refusal is handed on at once, and where there is none that says all that the inner call asks
-- (`ready_of`). Assumes nothing.
use mathlib.Core.Path.{sym}
use Rattle.rooms.proofs.Rooms.{ready_of}
use Rattle.track.proofs.Whole.{analysed_refused, analysed_passed}
use Rattle.analysis.proofs.analyse_envelope.Goals as goal

pub returns-in_err-envelope_refusal : goal.returns-in_err-envelope_refusal
returns-in_err-envelope_refusal c = analysed_refused _ _ _ _ _ _ _ _ c.from_residual.ensures.1 c.in_err-envelope_refusal.ensures

pub analyse-requires : goal.analyse-requires
analyse-requires c = ready_of _ _ _ _ _ (sym c.in_ok-envelope_refusal.ensures)

pub shape_of-threshold : goal.shape_of-threshold
shape_of-threshold c = c.analyse.auto.threshold

pub shape_of-onsets : goal.shape_of-onsets
shape_of-onsets c = c.analyse.auto.onsets

pub shape_of-clarity : goal.shape_of-clarity
shape_of-clarity c = c.analyse.auto.clarity

pub shape_of-weight : goal.shape_of-weight
shape_of-weight c = c.analyse.auto.weight

pub shape_of-window_clarity : goal.shape_of-window_clarity
shape_of-window_clarity c = c.analyse.auto.window_clarity

pub shape_of-window_weight : goal.shape_of-window_weight
shape_of-window_weight c = c.analyse.auto.window_weight

pub shape_of-score : goal.shape_of-score
shape_of-score c = c.analyse.auto.score

pub shape_of-back : goal.shape_of-back
shape_of-back c = c.analyse.auto.back

pub shape_of-beats : goal.shape_of-beats
shape_of-beats c = c.analyse.auto.beats

pub shape_of-downbeats : goal.shape_of-downbeats
shape_of-downbeats c = c.analyse.auto.downbeats

pub shape_of-work : goal.shape_of-work
shape_of-work c = c.analyse.auto.work

pub returns : goal.returns
returns c =
    analysed_passed _ _ _ _ _ _ _ _ _ (sym c.in_ok-envelope_refusal.ensures) c.analyse.ensures
