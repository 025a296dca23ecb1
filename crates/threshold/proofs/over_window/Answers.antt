-- `threshold::over_window` meets its contract, from what the two medians ensure. Assumes nothing.
use Rattle.numbers.proofs.Outcomes.{open_then}
use Rattle.threshold.specs.Threshold.{threshold_of}
use Rattle.threshold.proofs.over_window.Goals as goal

pub returns : goal.returns
unfolding threshold_of
returns c =
    record { value = rw (c.mad_in-mad.ensures.value, c.median_in-med.ensures.value); fact = open_then _ _ _ _ c.median_in-med.ensures.works c.mad_in-mad.ensures.works }
