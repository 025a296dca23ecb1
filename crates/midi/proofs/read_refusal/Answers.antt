-- `midi::read_refusal` meets its contract: the shape, and then the room. Assumes nothing.
use mathlib.Core.Path.{ap}
use native.Mathlib.Omega.{arith}
use borrow.Author.Tests.{le-leb, lt-leb}
use Rattle.texts.proofs.Texts.{fails, holds}
use Rattle.midi_events.specs.Shapes.{count_in}
use Rattle.midi_events.proofs.Shapes.{shaped-count}
use Rattle.midi.specs.Tracks.{read_refusal}
use mathlib.Core.Bool.{not}
use Rattle.midi.proofs.read_refusal.Goals as goal

pub returns-then-not-is_shaped : goal.returns-then-not-is_shaped
unfolding read_refusal
returns-then-not-is_shaped c = simp (fails _ _ c.is_shaped.ensures (ap not c.if-not-is_shaped.true))

pub overflow_sub-file : goal.overflow_sub-file
overflow_sub-file c =
    let a = c.args in
    omega (arith, shaped-count a.file.now (holds _ _ c.is_shaped.ensures (ap not c.if-not-is_shaped.false)))

pub returns-then-room-file : goal.returns-then-room-file
unfolding read_refusal
returns-then-room-file c =
    let a = c.args in
    simp (holds _ _ c.is_shaped.ensures (ap not c.if-not-is_shaped.false), lt-leb (count_in a.file.now) a.room c.if-room-file.true)

pub returns : goal.returns
unfolding read_refusal
returns c =
    let a = c.args in
    simp (holds _ _ c.is_shaped.ensures (ap not c.if-not-is_shaped.false), le-leb (count_in a.file.now) a.room c.if-room-file.false)
