-- `labels::write_labels` meets its contract: the frames' number, then the room, then the lines. Assumes nothing.
use mathlib.Core.Path.{refl, sym, ◌∙◌}
use native.Mathlib.Omega.{arith}
use lib.ListN.{length}
use Rattle.numbers.proofs.Outcomes.{number-not_0, lists_refused, lists_on, lists_done}
use Rattle.lists.proofs.Grids.{counted-told}
use Rattle.label_tracks.specs.Tracks.{label_bytes}
use Rattle.labels.specs.Calls.{write_labels_number}
use Rattle.labels.proofs.Calls.{frames_told, write_refused, write_room, write_none}
use Rattle.labels.proofs.write_labels.Goals as goal

pub returns-in_err-bytes : goal.returns-in_err-bytes
returns-in_err-bytes c =
    let e = c.in_err-bytes.ensures.number_is in
    lists_on _ _ _ _ _ c.from_residual.ensures.1
    (e ∙ sym (write_refused c.args.frames.now c.args.rate (length c.args.text.now) (λ z. number-not_0 _ (e ∙ z))))

pub returns-then-bytes-text : goal.returns-then-bytes-text
returns-then-bytes-text c =
    let t = counted-told _ _ c.in_ok-bytes.ensures refl in
    lists_refused _ _ _ _
    (sym (write_room c.args.frames.now c.args.rate (length c.args.text.now) t.0 (omega (arith, c.if-bytes-text.true, t.1))))
    (λ z. omega arith) refl

pub put_lines-requires : goal.put_lines-requires
put_lines-requires c =
    let t = counted-told _ _ c.in_ok-bytes.ensures refl in
    record { rate_value = (frames_told c.args.frames.now c.args.rate t.0).0; frames_in_bounds = omega (arith, c.if-bytes-text.false, t.1) }

pub returns : goal.returns
returns c =
    let frames = c.args.frames.now in
    let text = c.args.text.now in
    let rate = c.args.rate in
    let t = counted-told _ _ c.in_ok-bytes.ensures refl in
    lists_done (write_labels_number frames rate (length text)) (label_bytes rate frames) text _ c.put_lines.new.out
    (write_none frames rate (length text) t.0 (omega (arith, c.if-bytes-text.false, t.1))) refl t.1 c.put_lines.ensures
