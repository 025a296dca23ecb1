-- `onsets::list_onsets` meets its contract: the part of the threshold's slice that is read is the curve that was written. Assumes nothing.
use Rattle.onsets.proofs.Outcomes.{listed_by}
use Rattle.onsets.proofs.list_onsets.Goals as goal

pub returns : goal.returns
returns c =
    listed_by _ _ _ _ _ _ _ _ _ _ c.fill_threshold.ensures.threshold_after c.fill_threshold.auto.work c.fill_threshold.ensures.work_unchanged
    c.gap_of.ensures c.pick_peaks.ensures
