-- `midi_events::events_stand` meets its contract. The invariant: whether all events stand and none tells 0 is whether those that are left do
-- (`fine_from`). Assumes nothing.
use mathlib.Core.Path.{◌≡◌}
use Prim.Native.Nat.{◌≤◌}
use Rattle.midi_events.specs.Shapes.{count_in}
use Rattle.midi_events.proofs.Shapes.{fine_from}
use Rattle.midi_events.proofs.events_stand.Given as goal

abbrev pub invariant-loop-i : goal.invariant-loop-i
invariant-loop-i l = (l.i ≤ count_in l.file) × (fine_from l.file 0 ≡ fine_from l.file l.i)
