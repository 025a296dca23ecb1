-- `report_answer::put_over` meets its contract: nothing refuses the flux in the room that is lent, so the lines of the answer are its report.
-- Assumes nothing.
use mathlib.Core.Path.{refl}
use native.Mathlib.Omega.{arith}
use Rattle.report_text.proofs.Puts.{put_as}
use Rattle.report_answer.proofs.Reports.{analysis-ok, lines_are, listable}
use Rattle.report_answer.proofs.put_over.Goals as goal

pub unwrap-answer-requires : goal.unwrap-answer-requires
unwrap-answer-requires c =
    let lent = c.requires in
    analysis-ok _ _ _ _ _ _ _ c.analyse_envelope.ensures c.new.ensures lent.flux_len_bound.0 lent.flux_len_bound.1 lent.curves_lent lent.lists_lent _ refl

pub put_lines-requires : goal.put_lines-requires
put_lines-requires c =
    let lent = c.requires in
    let k = c.analyse_envelope.auto in
    let told = rw c.unwrap-answer.ensures at c.analyse_envelope.ensures in (
      listable _ _ _ _ _ _ _ told c.new.ensures lent.flux_len_bound.0 lent.flux_len_bound.1 lent.curves_lent lent.lists_lent k.onsets k.beats k.downbeats,
      lent.flux_len_bound.2,
    )

pub shape_of-threshold : goal.shape_of-threshold
shape_of-threshold c = c.analyse_envelope.auto.threshold

pub shape_of-onsets : goal.shape_of-onsets
shape_of-onsets c = c.analyse_envelope.auto.onsets

pub shape_of-clarity : goal.shape_of-clarity
shape_of-clarity c = c.analyse_envelope.auto.clarity

pub shape_of-weight : goal.shape_of-weight
shape_of-weight c = c.analyse_envelope.auto.weight

pub shape_of-window_clarity : goal.shape_of-window_clarity
shape_of-window_clarity c = c.analyse_envelope.auto.window_clarity

pub shape_of-window_weight : goal.shape_of-window_weight
shape_of-window_weight c = c.analyse_envelope.auto.window_weight

pub shape_of-score : goal.shape_of-score
shape_of-score c = c.analyse_envelope.auto.score

pub shape_of-back : goal.shape_of-back
shape_of-back c = c.analyse_envelope.auto.back

pub shape_of-beats : goal.shape_of-beats
shape_of-beats c = c.analyse_envelope.auto.beats

pub shape_of-downbeats : goal.shape_of-downbeats
shape_of-downbeats c = c.analyse_envelope.auto.downbeats

pub shape_of-work : goal.shape_of-work
shape_of-work c = c.analyse_envelope.auto.work

pub shape_of-bytes : goal.shape_of-bytes
shape_of-bytes c = c.put_lines.auto.bytes

pub returns : goal.returns
returns c =
    let lent = c.requires in
    let told = rw c.unwrap-answer.ensures at c.analyse_envelope.ensures in
    put_as (lines_are _ _ _ _ _ _ _ told c.new.ensures lent.flux_len_bound.0 lent.flux_len_bound.1 lent.curves_lent lent.lists_lent) (omega arith)
    c.put_lines.ensures
