-- `report_answer::put_with_curves` meets its contract, by that of `put_over`. Assumes nothing.
use Rattle.report_answer.proofs.put_with_curves.Goals as goal

pub put_over-requires : goal.put_over-requires
put_over-requires c =
    record {
      flux_len_bound = c.requires.flux_len_bound;
      curves_lent = c.requires.curves_lent;
      lists_lent = record {
        onset_lists = c.list_room-onsets.ensures;
        links = c.list_room-back.ensures;
        beat_lists = c.list_room-beats.ensures;
        downbeat_lists = c.list_room-downbeats.ensures;
      };
    }

pub shape_of-threshold : goal.shape_of-threshold
shape_of-threshold c = c.put_over.auto.threshold

pub shape_of-clarity : goal.shape_of-clarity
shape_of-clarity c = c.put_over.auto.clarity

pub shape_of-weight : goal.shape_of-weight
shape_of-weight c = c.put_over.auto.weight

pub shape_of-window_clarity : goal.shape_of-window_clarity
shape_of-window_clarity c = c.put_over.auto.window_clarity

pub shape_of-window_weight : goal.shape_of-window_weight
shape_of-window_weight c = c.put_over.auto.window_weight

pub shape_of-score : goal.shape_of-score
shape_of-score c = c.put_over.auto.score

pub shape_of-work : goal.shape_of-work
shape_of-work c = c.put_over.auto.work

pub shape_of-bytes : goal.shape_of-bytes
shape_of-bytes c = c.put_over.auto.bytes

pub returns : goal.returns
returns c = c.put_over.ensures
