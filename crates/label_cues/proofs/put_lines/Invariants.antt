-- `label_cues::put_lines` meets its contract. The invariant: the track of the frames so far is written. Assumes nothing.
use Rattle.texts.specs.Texts.{Put}
use Rattle.cue_points.specs.Chunks.{chunk_frames}
use Rattle.labels.proofs.Written.{labels_to}
use Rattle.label_cues.proofs.put_lines.Given as goal

abbrev pub invariant-loop-i : goal.invariant-loop-i
invariant-loop-i l = Put l.initial.out 0 (labels_to l.rate (chunk_frames l.chunk) l.i) l.at l.out
