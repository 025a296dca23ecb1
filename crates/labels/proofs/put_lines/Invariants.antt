-- `labels::put_lines` meets its contract. The invariant: the track of the frames so far is written. Assumes nothing.
use Rattle.texts.specs.Texts.{Put}
use Rattle.labels.proofs.Written.{labels_to}
use Rattle.labels.proofs.put_lines.Given as goal

abbrev pub invariant-loop-t : goal.invariant-loop-t
invariant-loop-t l = Put l.initial.out 0 (labels_to l.rate l.frames l.t-index) l.at l.out
