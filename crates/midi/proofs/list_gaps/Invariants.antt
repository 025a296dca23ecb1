-- `midi::list_gaps` meets its contract. The invariant: slots 0 up to i are written by the rule. Assumes nothing.
use mathlib.Core.Path.{◌≡◌}
use Rattle.numbers.specs.Lists.{filled}
use Rattle.midi_events.specs.Shapes.{gap_in}
use Rattle.midi.proofs.list_gaps.Given as goal

abbrev pub invariant-loop-i : goal.invariant-loop-i
invariant-loop-i l = l.gaps ≡ filled (gap_in l.file) l.initial.gaps 0 l.i
