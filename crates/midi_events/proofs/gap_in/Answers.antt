-- `midi_events::gap_in` meets its contract: three bytes of the file. Assumes nothing.
use Rattle.midi_events.specs.Shapes.{gap_in}
use Rattle.midi_events.proofs.gap_in.Goals as goal

pub returns : goal.returns
unfolding gap_in
returns c = c.tempo_from.ensures
