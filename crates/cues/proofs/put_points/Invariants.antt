-- `cues::put_points` meets its contract. The invariant: the points of the frames so far are written. Assumes nothing.
use Rattle.texts.specs.Texts.{Put}
use Rattle.cues.proofs.Chunks.{points_to}
use Rattle.cues.proofs.put_points.Given as goal

abbrev pub invariant-loop-i : goal.invariant-loop-i
invariant-loop-i l = Put l.initial.out 12 (points_to l.frames l.i) l.at l.out
