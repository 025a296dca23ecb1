-- `midi_events::delta_at` meets its contract: only event 0 stands at delta 0. Assumes nothing.
use mathlib.Core.Path.{sym}
use native.Mathlib.Omega.{arith}
use Rattle.midi_events.proofs.Events.{delta_later}
use Rattle.midi_events.proofs.delta_at.Goals as goal

pub returns-else-i-eq0 : goal.returns-else-i-eq0
returns-else-i-eq0 c = sym (delta_later c.args.i (omega arith))
