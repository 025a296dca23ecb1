-- `cues::read_cues` meets its contract. The invariant: the frames so far are filled. Assumes nothing.
use mathlib.Core.Path.{◌≡◌}
use Rattle.numbers.specs.Lists.{filled}
use Rattle.cue_points.specs.Chunks.{point_frame}
use Rattle.cues.proofs.read_cues.Given as goal

abbrev pub invariant-loop-i : goal.invariant-loop-i
invariant-loop-i l = l.frames ≡ filled (point_frame l.chunk) l.initial.frames 0 l.i
