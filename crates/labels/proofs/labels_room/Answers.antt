-- `labels::labels_room` meets its contract: the frames' number, and the length of their track. Assumes nothing.
use mathlib.Core.Path.{refl, sym}
use Rattle.lists.proofs.Grids.{counted_on, counted-done}
use Rattle.labels.proofs.Calls.{frames_told}
use Rattle.labels.proofs.labels_room.Goals as goal

pub returns-in_err-frames_refusal : goal.returns-in_err-frames_refusal
returns-in_err-frames_refusal c = counted_on _ _ _ _ c.from_residual.ensures.1 c.in_err-frames_refusal.ensures

pub text_length-requires : goal.text_length-requires
text_length-requires c =
    let r = frames_told c.args.frames.now c.args.rate (sym c.in_ok-frames_refusal.ensures) in
    record { rate_value = r.0; frames_value = r.1.listed; frames_len_bound = r.1.few }

pub returns : goal.returns
returns c = counted-done _ _ _ (sym c.in_ok-frames_refusal.ensures) refl c.text_length.ensures
