-- `feature_places::centre_ms` meets its contract: its operations are the definition's, in their order. Assumes nothing.
use Rattle.feature_places.specs.Places.{centre_ms}
use Rattle.feature_places.proofs.centre_ms.Goals as goal

pub returns : goal.returns
unfolding centre_ms
returns c = rw c.float_of.ensures
