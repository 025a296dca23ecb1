-- `sections::frame_ms` meets its contract: its operations are the definition's. Assumes nothing.
use Rattle.sections.specs.Boundaries.{frame_ms}
use Rattle.sections.proofs.frame_ms.Goals as goal

pub returns : goal.returns
unfolding frame_ms
returns c = rw c.nearest_u64_to_f64.ensures
