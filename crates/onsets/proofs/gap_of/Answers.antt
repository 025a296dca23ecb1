-- `onsets::gap_of` meets its contract, from what the ceiling and the greater of two ensure. Assumes nothing.
use mathlib.Core.Path.{ap, ◌∙◌}
use Prim.Native.Nat.{max}
use Rattle.std.proofs.Math.Nat.{max_comm}
use Rattle.onsets.specs.Onsets.{gap_of}
use Rattle.onsets.proofs.gap_of.Goals as goal

pub returns : goal.returns
unfolding gap_of
returns c = c.max.ensures ∙ max_comm _ 1 ∙ ap (max 1) c.ceil_of-frames.ensures
