-- `onsets::frame_time` meets its contract: its operations are the definition's. Assumes nothing.
use mathlib.Core.Path.{refl}
use Rattle.onsets.specs.Onsets.{frame_time}
use Rattle.onsets.proofs.frame_time.Goals as goal

pub returns : goal.returns
unfolding frame_time
returns c = refl
