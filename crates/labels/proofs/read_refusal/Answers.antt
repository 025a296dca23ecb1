-- `labels::read_refusal` meets its contract: the text's number, and then the room. Assumes nothing.
use mathlib.Core.Path.{refl, sym, ◌∙◌}
use native.Mathlib.Omega.{arith}
use Rattle.numbers.proofs.Outcomes.{handed_on, number-not_0}
use Rattle.lists.proofs.Grids.{counted-told}
use Rattle.labels.proofs.Calls.{read_refused, read_room, read_none}
use Rattle.labels.proofs.read_refusal.Goals as goal

pub returns-in_err-lines : goal.returns-in_err-lines
returns-in_err-lines c =
    let e = c.in_err-lines.ensures.number_is in
    handed_on _ _ c.from_residual.ensures.1 ∙ e ∙ sym (read_refused c.args.text.now c.args.rate c.args.room (λ z. number-not_0 _ (e ∙ z)))

-- past the text's own number: it is 0, and the count is that of its lines
pub returns-then-lines-room : goal.returns-then-lines-room
returns-then-lines-room c =
    let t = counted-told _ _ c.in_ok-lines.ensures refl in
    sym (read_room c.args.text.now c.args.rate c.args.room t.0 (omega (arith, c.if-lines-room.true, t.1)))

pub returns : goal.returns
returns c =
    let t = counted-told _ _ c.in_ok-lines.ensures refl in
    sym (read_none c.args.text.now c.args.rate c.args.room t.0 (omega (arith, c.if-lines-room.false, t.1)))
