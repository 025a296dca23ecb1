-- `midi::read_tempo_track` meets its contract: a refusal returns at once, and without one all holds that the inner call asks. Assumes nothing.
use mathlib.Core.Path.{refl, sym, ◌∙◌}
use native.Mathlib.Omega.{arith}
use lib.ListN.{length}
use Rattle.numbers.proofs.Outcomes.{lists_on, lists_done}
use Rattle.midi_events.proofs.Shapes.{count_in_lem}
use Rattle.midi.proofs.Tracks.{read_told, gaps-filled}
use Rattle.midi.proofs.read_tempo_track.Goals as goal

pub returns-in_err-read_refusal : goal.returns-in_err-read_refusal
returns-in_err-read_refusal c = lists_on _ _ _ _ _ c.from_residual.ensures.1 c.in_err-read_refusal.ensures

pub overflow_sub-count : goal.overflow_sub-count
overflow_sub-count c =
    let a = c.args in
    omega (arith, (read_told a.file.now (length a.gaps.now) (sym c.in_ok-read_refusal.ensures)).1)

pub list_gaps-requires : goal.list_gaps-requires
list_gaps-requires c =
    let a = c.args in
    let told = read_told a.file.now (length a.gaps.now) (sym c.in_ok-read_refusal.ensures) in
    (omega (arith, told.1), told.2)

pub returns : goal.returns
returns c =
    let a = c.args in
    lists_done _ _ _ _ _ (sym c.in_ok-read_refusal.ensures) refl (sym (count_in_lem a.file.now))
    (c.list_gaps.ensures ∙ gaps-filled a.file.now a.gaps.now)
