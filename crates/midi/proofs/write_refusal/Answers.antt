-- `midi::write_refusal` meets its contract: the number of the grid, and then the room; the row of 8 is never reached (`tested_rows`). Assumes nothing.
use mathlib.Core.Path.{◌≡◌, sym, ap, ◌∙◌}
use Prim.Native.Nat.{◌-◌}
use native.Mathlib.Omega.{arith}
use borrow.Author.Tests.{le-leb, lt-leb}
use lib.Dec.{leb}
use lib.ListN.{length}
use Rattle.numbers.specs.Refusals.{unless}
use Rattle.numbers.proofs.Outcomes.{handed_on, number-not_0}
use Rattle.midi_gaps.specs.Gaps.{tempo_track_numbers_fine, is_grid, gaps_fit}
use Rattle.midi_events.specs.Shapes.{track_room}
use Rattle.midi.specs.Tracks.{write_refusal}
use Rattle.midi.proofs.Tracks.{tested_rows, grid-refuses, grid_passes, grid-told}
use Rattle.midi.proofs.write_refusal.Goals.{In_ok-grid_refusal}
use Rattle.midi.proofs.write_refusal.Goals as goal

-- where the grid passes, the room decides
passed : (c : In_ok-grid_refusal) → let a = c.args in
    unless (leb (track_room (length a.beats.now - 1)) a.room) 3 0 ≡ write_refusal a.beats.now a.rate a.room
passed c =
    let a = c.args in
    let beats = a.beats.now in
    grid_passes (tempo_track_numbers_fine a.rate beats) (is_grid beats) (gaps_fit a.rate beats) (leb (track_room (length beats - 1)) a.room)
    (sym c.in_ok-grid_refusal.ensures)
    ∙ sym (tested_rows a.rate beats a.room)

pub returns-in_err-grid_refusal : goal.returns-in_err-grid_refusal
returns-in_err-grid_refusal c =
    let a = c.args in
    let beats = a.beats.now in
    let e = c.in_err-grid_refusal.ensures in
    handed_on _ _ c.from_residual.ensures.1 ∙ e
    ∙ grid-refuses (tempo_track_numbers_fine a.rate beats) (is_grid beats) (gaps_fit a.rate beats) (leb (track_room (length beats - 1)) a.room)
    (λ z. number-not_0 _ (e ∙ z))
    ∙ sym (tested_rows a.rate beats a.room)

pub overflow_sub-beats : goal.overflow_sub-beats
overflow_sub-beats c =
    let a = c.args in
    omega (arith, (grid-told a.beats.now a.rate (sym c.in_ok-grid_refusal.ensures)).0)

pub returns-then-room-beats : goal.returns-then-room-beats
returns-then-room-beats c =
    let a = c.args in
    sym (ap (λ t. unless t 3 0) (lt-leb (track_room (length a.beats.now - 1)) a.room c.if-room-beats.true)) ∙ passed (goal.at.returns-then-room-beats c).In_ok-grid_refusal

pub returns : goal.returns
returns c =
    let a = c.args in
    sym (ap (λ t. unless t 3 0) (le-leb (track_room (length a.beats.now - 1)) a.room c.if-room-beats.false)) ∙ passed (goal.at.returns c).In_ok-grid_refusal
