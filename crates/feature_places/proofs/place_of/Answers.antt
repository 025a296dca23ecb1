-- `feature_places::place_of` meets its contract: a time over a time, cut, and the smaller of that and the last place. Assumes nothing.
use Rattle.feature_places.specs.Places.{feature_row_of}
use Rattle.feature_places.proofs.place_of.Goals as goal

pub returns : goal.returns
unfolding feature_row_of
returns c =
    rw (c.min.ensures, c.saturating_sub.ensures, c.whole_of-place.ensures, c.frame_ms.ensures, c.centre_ms.ensures)
