-- `label_cues::cues_to_labels` meets its contract: the chunk's number at the rate, then the room, then the lines. Assumes nothing.
use mathlib.Core.Path.{refl, sym, ◌∙◌}
use native.Mathlib.Omega.{arith}
use lib.ListN.{length}
use Rattle.numbers.proofs.Outcomes.{number-not_0, lists_refused, lists_on, lists_done}
use Rattle.lists.proofs.Grids.{counted-told}
use Rattle.cue_points.specs.Chunks.{chunk_frames}
use Rattle.label_tracks.specs.Tracks.{label_bytes}
use Rattle.label_cues.specs.Calls.{cues_to_labels_number}
use Rattle.label_cues.proofs.Calls.{rated_told, cues_refused, cues_room, cues_none}
use Rattle.label_cues.proofs.cues_to_labels.Goals as goal

pub returns-in_err-bytes : goal.returns-in_err-bytes
returns-in_err-bytes c =
    let e = c.in_err-bytes.ensures.number_is in
    lists_on _ _ _ _ _ c.from_residual.ensures.1
    (e ∙ sym (cues_refused c.args.chunk.now c.args.rate (length c.args.text.now) (λ z. number-not_0 _ (e ∙ z))))

pub returns-then-bytes-text : goal.returns-then-bytes-text
returns-then-bytes-text c =
    let t = counted-told _ _ c.in_ok-bytes.ensures refl in
    lists_refused _ _ _ _
    (sym (cues_room c.args.chunk.now c.args.rate (length c.args.text.now) t.0 (omega (arith, c.if-bytes-text.true, t.1))))
    (λ z. omega arith) refl

pub put_lines-requires : goal.put_lines-requires
put_lines-requires c =
    let t = counted-told _ _ c.in_ok-bytes.ensures refl in
    let r = rated_told c.args.chunk.now c.args.rate t.0 in
    record { rate_value = r.0; chunk_value = r.1; chunk_in_bounds = omega (arith, c.if-bytes-text.false, t.1) }

pub returns : goal.returns
returns c =
    let chunk = c.args.chunk.now in
    let text = c.args.text.now in
    let rate = c.args.rate in
    let t = counted-told _ _ c.in_ok-bytes.ensures refl in
    lists_done (cues_to_labels_number chunk rate (length text)) (label_bytes rate (chunk_frames chunk)) text _ c.put_lines.new.out
    (cues_none chunk rate (length text) t.0 (omega (arith, c.if-bytes-text.false, t.1)))
    refl t.1 c.put_lines.ensures
