-- `midi_events::is_shaped` meets its contract: the tests of the shape in turn (Shapes); each return is the first that fails. Assumes nothing.
use mathlib.Core.Path.{◌≡◌, sym, ap, ◌∙◌}
use mathlib.Core.Bool.{Bool, ◌&&◌}
use mathlib.Core.List.{List}
use Prim.Native.Nat.{ℕ, ◌-◌, ◌+◌, ◌*◌}
use native.Mathlib.Omega.{arith}
use borrow.Author.Tests.{not-true, not-false}
use lib.ListN.{length, drop}
use Rattle.texts.specs.Texts.{starts}
use Rattle.texts.proofs.Texts.{fails, holds}
use Rattle.midi_events.specs.File.{track_end}
use Rattle.midi_events.specs.Shapes.{track_room, count_in, shaped}
use Rattle.midi_events.proofs.Shapes.{too_short, left_over, too_long, other_front, by_events}
use mathlib.Core.Bool.{not}
use Rattle.midi_events.proofs.is_shaped.Goals.{After-events_stand, Else-file-gt0}
use Rattle.midi_events.proofs.is_shaped.Goals as goal

-- nothing is left over: the length is that of so many events
whole : (c : Else-file-gt0) → let file = c.args.file.now in length file ≡ track_room (count_in file)
whole c = omega arith

-- past the front: the events, and then the track's end
events : (c : After-events_stand) → let file = c.args.file.now in
    shaped file ≡ (c.events_stand.result && starts track_end (drop (22 + count_in file * 7) file))
events c =
    let whole-here : let file = c.args.file.now in length file ≡ track_room (count_in file) = omega arith in
    let file = c.args.file.now in
    let s = c.stands.ensures ∙ ap (λ (r : List ℕ). starts r file) c.front-head.ensures in
    by_events file c.if-file-lt33.false (whole-here) c.if-count-gt-MOST_GAPS.false c.events_stand.result (holds _ _ s (ap not c.if-not-stands.false))
    c.events_stand.ensures

pub returns-then-file-lt33 : goal.returns-then-file-lt33
returns-then-file-lt33 c = too_short c.args.file.now c.if-file-lt33.true

pub returns-then-file-gt0 : goal.returns-then-file-gt0
returns-then-file-gt0 c = left_over c.args.file.now c.if-file-lt33.false (omega arith)

pub returns-then-count-gt-MOST_GAPS : goal.returns-then-count-gt-MOST_GAPS
returns-then-count-gt-MOST_GAPS c = too_long c.args.file.now c.if-file-lt33.false (whole (goal.at.returns-then-count-gt-MOST_GAPS c).Else-file-gt0) c.if-count-gt-MOST_GAPS.true

pub returns-then-not-stands : goal.returns-then-not-stands
returns-then-not-stands c =
    let file = c.args.file.now in
    let s = c.stands.ensures ∙ ap (λ (r : List ℕ). starts r file) c.front-head.ensures in
    other_front file c.if-file-lt33.false (whole (goal.at.returns-then-not-stands c).Else-file-gt0) c.if-count-gt-MOST_GAPS.false (fails _ _ s (ap not c.if-not-stands.true))

pub returns-then-not-events_stand : goal.returns-then-not-events_stand
returns-then-not-events_stand c =
    let file = c.args.file.now in
    sym (events (goal.at.returns-then-not-events_stand c).After-events_stand ∙ ap (λ (t : Bool). t && starts track_end (drop (22 + count_in file * 7) file)) (not-true c.events_stand.result (ap not c.if-not-events_stand.true)))

pub returns : goal.returns
returns c =
    let file = c.args.file.now in
    let n : 22 + count_in file * 7 ≡ length file - 4 = omega arith in
    sym (events (goal.at.returns c).After-events_stand
    ∙ ap (λ (t : Bool). t && starts track_end (drop (22 + count_in file * 7) file)) (not-false c.events_stand.result (ap not c.if-not-events_stand.false))
    ∙ ap (λ (k : ℕ). starts track_end (drop k file)) n
    ∙ sym c.stands-2.ensures)
