-- `capi::tracks::ph_analyse_magnitudes` meets its contract: `magnitudes-told` of what the proved call promises and of what is handed over. Assumes nothing.
use Rattle.capi.proofs.TrackTellings.{magnitudes-told}
use Rattle.capi.proofs.tracks.ph_analyse_magnitudes.Goals as goal

pub chosen-requires : goal.chosen-requires
chosen-requires c = tt

pub analyse_magnitudes-answer-requires : goal.analyse_magnitudes-answer-requires
analyse_magnitudes-answer-requires c = tt

pub put_analysis-requires : goal.put_analysis-requires
put_analysis-requires c = tt

pub shape_of-flux : goal.shape_of-flux
shape_of-flux c = c.analyse_magnitudes-answer.auto.flux

pub shape_of-threshold : goal.shape_of-threshold
shape_of-threshold c = c.analyse_magnitudes-answer.auto.threshold

pub shape_of-onsets : goal.shape_of-onsets
shape_of-onsets c = c.analyse_magnitudes-answer.auto.onsets

pub shape_of-clarity_curve : goal.shape_of-clarity_curve
shape_of-clarity_curve c = c.analyse_magnitudes-answer.auto.clarity

pub shape_of-weight_curve : goal.shape_of-weight_curve
shape_of-weight_curve c = c.analyse_magnitudes-answer.auto.weight

pub shape_of-window_clarity : goal.shape_of-window_clarity
shape_of-window_clarity c = c.analyse_magnitudes-answer.auto.window_clarity

pub shape_of-window_weight : goal.shape_of-window_weight
shape_of-window_weight c = c.analyse_magnitudes-answer.auto.window_weight

pub shape_of-score : goal.shape_of-score
shape_of-score c = c.analyse_magnitudes-answer.auto.score

pub shape_of-back : goal.shape_of-back
shape_of-back c = c.analyse_magnitudes-answer.auto.back

pub shape_of-beats : goal.shape_of-beats
shape_of-beats c = c.analyse_magnitudes-answer.auto.beats

pub shape_of-downbeats : goal.shape_of-downbeats
shape_of-downbeats c = c.analyse_magnitudes-answer.auto.downbeats

pub shape_of-work : goal.shape_of-work
shape_of-work c = c.analyse_magnitudes-answer.auto.work

pub returns : goal.returns
returns c = magnitudes-told c.chosen.ensures c.analyse_magnitudes-answer.ensures c.put_analysis.ensures
