-- `midi_events::event_stands` meets its contract: the pieces of an event in turn; each return is the first that differs. Assumes nothing.
use mathlib.Core.Path.{◌≡◌, sym, ap, ◌∙◌}
use mathlib.Core.Bool.{Bool, true, ◌&&◌}
use mathlib.Core.List.{List, [], ◌∷◌}
use Prim.Native.Nat.{ℕ, ◌+◌, ◌*◌}
use native.Mathlib.Omega.{arith}
use borrow.Author.Tests.{eq-eqb, ne_eqb}
use lib.Dec.{eqb}
use lib.ListN.{get_or, drop}
use Rattle.texts.specs.Texts.{starts}
use Rattle.texts.proofs.Texts.{fails, holds}
use Rattle.midi_events.specs.File.{in_three_bytes, delta_of}
use Rattle.midi_events.proofs.Events.{event_pieces}
use mathlib.Core.Bool.{not}
use Rattle.midi_events.proofs.event_stands.Goals as goal

pub returns-then-file-at : goal.returns-then-file-at
returns-then-file-at c =
    let a = c.args in
    let file = a.file.now in
    let at = 22 + a.i * 7 in
    sym (event_pieces (delta_of a.i) a.gap file at (omega arith)
    ∙ ap (λ (t : Bool). t && (starts (255 ∷ 81 ∷ 3 ∷ []) (drop (at + 1) file) && starts (in_three_bytes a.gap) (drop (at + 4) file)))
    (ne_eqb (get_or file at 0) (delta_of a.i) (λ e. c.if-file-at.true (e ∙ sym c.delta_at.ensures))))

pub returns-then-not-stands : goal.returns-then-not-stands
returns-then-not-stands c =
    let a = c.args in
    let file = a.file.now in
    let at = 22 + a.i * 7 in
    let same : eqb (get_or file at 0) (delta_of a.i) ≡ true = eq-eqb _ _ (c.if-file-at.false ∙ c.delta_at.ensures) in
    sym (event_pieces (delta_of a.i) a.gap file at (omega arith)
    ∙ ap (λ (t : Bool). t && (starts (255 ∷ 81 ∷ 3 ∷ []) (drop (at + 1) file) && starts (in_three_bytes a.gap) (drop (at + 4) file))) same
    ∙ ap (λ (t : Bool). t && starts (in_three_bytes a.gap) (drop (at + 4) file)) (fails _ _ c.stands.ensures (ap not c.if-not-stands.true)))

pub returns : goal.returns
returns c =
    let a = c.args in
    let file = a.file.now in
    let at = 22 + a.i * 7 in
    let same : eqb (get_or file at 0) (delta_of a.i) ≡ true = eq-eqb _ _ (c.if-file-at.false ∙ c.delta_at.ensures) in
    sym (event_pieces (delta_of a.i) a.gap file at (omega arith)
    ∙ ap (λ (t : Bool). t && (starts (255 ∷ 81 ∷ 3 ∷ []) (drop (at + 1) file) && starts (in_three_bytes a.gap) (drop (at + 4) file))) same
    ∙ ap (λ (t : Bool). t && starts (in_three_bytes a.gap) (drop (at + 4) file)) (holds _ _ c.stands.ensures (ap not c.if-not-stands.false))
    ∙ ap (λ (l : List ℕ). starts l (drop (at + 4) file)) (sym c.tempo_bytes-bytes.ensures)
    ∙ sym c.stands-2.ensures)
