use mathlib.Core.Path.{refl, sym, ap, ◌∙◌}
use Prim.Native.Nat.{ℕ, ◌+◌, ◌*◌}
use native.Mathlib.Omega.{arith}
use lib.ListN.{drop}
use Rattle.texts.specs.Texts.{starts}
use Rattle.texts.proofs.Texts.{fails, holds}
use Rattle.midi_events.specs.File.{delta_of, tempo_event}
use Rattle.midi_events.proofs.Shapes.{fine-zero, fine_other, fine_step, fine_end}
use mathlib.Core.Bool.{not}
use Rattle.midi_events.proofs.events_stand.Goals as goal

pub loop-i-init : goal.loop-i-init
loop-i-init c = (omega arith, refl)

pub returns-then-gap-lt1 : goal.returns-then-gap-lt1
returns-then-gap-lt1 c =
    let file = c.args.file.now in
    sym (c.loop-i.invariant.1 ∙ fine-zero file c.loop-i.i (omega arith) (omega (arith, c.gap_in-gap.ensures.0)))

pub event_stands-requires : goal.event_stands-requires
event_stands-requires c = (c.gap_in-gap.ensures.1, omega arith)

pub returns-then-not-event_stands : goal.returns-then-not-event_stands
returns-then-not-event_stands c =
    let file = c.args.file.now in
    let i = c.loop-i.i in
    let s = c.event_stands.ensures
    ∙ ap (λ (g : ℕ). starts (tempo_event (delta_of i) g) (drop (22 + i * 7) file)) c.gap_in-gap.ensures.0 in
    sym (c.loop-i.invariant.1 ∙ fine_other file i (omega arith) (fails _ _ s (ap not c.if-not-event_stands.true)))

pub loop-i-preserved : goal.loop-i-preserved
loop-i-preserved c =
    let file = c.args.file.now in
    let i = c.loop-i.i in
    let k = c.gap_in-gap.ensures.0 in
    let s = c.event_stands.ensures ∙ ap (λ (g : ℕ). starts (tempo_event (delta_of i) g) (drop (22 + i * 7) file)) k in
    (omega arith, c.loop-i.invariant.1 ∙ fine_step file i (omega arith) (omega (arith, k)) (holds _ _ s (ap not c.if-not-event_stands.false)))

pub returns : goal.returns
returns c =
    sym (c.loop-i.invariant.1 ∙ fine_end c.args.file.now c.loop-i.i (omega arith))
