-- `report_answer::put_analysis` meets its contract, by that of `put_with_curves`. Assumes nothing.
use Rattle.report_answer.proofs.put_analysis.Goals as goal

pub put_with_curves-requires : goal.put_with_curves-requires
put_with_curves-requires c =
    record {
      flux_len_bound = c.requires;
      curves_lent = record {
        thresholds = c.curve_room-threshold.ensures;
        clarities = c.lag_room-clarity.ensures;
        weights = c.lag_room-weight.ensures;
        window_clarities = c.lag_room-window_clarity.ensures;
        window_weights = c.lag_room-window_weight.ensures;
        scores = c.curve_room-score.ensures;
        works = c.lag_room-work.ensures;
      };
    }

pub shape_of-bytes : goal.shape_of-bytes
shape_of-bytes c = c.put_with_curves.auto.bytes

pub returns : goal.returns
returns c = c.put_with_curves.ensures
