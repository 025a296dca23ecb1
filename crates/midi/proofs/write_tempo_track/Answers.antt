-- `midi::write_tempo_track` meets its contract: a refusal returns at once, and without one all holds that the inner call asks. Assumes nothing.
use mathlib.Core.Path.{refl, sym, ◌∙◌}
use native.Mathlib.Nat.{zero-add}
use Rattle.numbers.proofs.Outcomes.{lists_on, lists_done}
use Rattle.texts.proofs.Overs.{over-front}
use Rattle.midi.proofs.write_tempo_track.Goals as goal

pub returns-in_err-write_refusal : goal.returns-in_err-write_refusal
returns-in_err-write_refusal c = lists_on _ _ _ _ _ c.from_residual.ensures.1 c.in_err-write_refusal.ensures

pub returns : goal.returns
returns c =
    lists_done _ _ _ _ _ (sym c.in_ok-write_refusal.ensures) refl (c.put_track.ensures.end_is ∙ zero-add _)
    (c.put_track.ensures.bytes_are ∙ over-front _ _)
