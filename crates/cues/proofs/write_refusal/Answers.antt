-- `cues::write_refusal` meets its contract: the frames' number, and then the room. A grid has few enough frames to count its bytes. Assumes nothing.
use mathlib.Core.Path.{◌≡◌, sym, ◌∙◌}
use native.Mathlib.Omega.{arith}
use Rattle.numbers.specs.Refusals.{first_of}
use Rattle.numbers.proofs.Outcomes.{handed_on, number-not_0}
use Rattle.lists.specs.Grids.{grid_rows}
use Rattle.lists.proofs.Grids.{grid-told}
use Rattle.cues.proofs.Calls.{write_refused, write_room, write_none}
use Rattle.cues.proofs.write_refusal.Goals.{In_ok-grid_refusal}
use Rattle.cues.proofs.write_refusal.Goals as goal

told : (c : In_ok-grid_refusal) → first_of (grid_rows c.args.frames.now) ≡ 0
told c = sym c.in_ok-grid_refusal.ensures

pub returns-in_err-grid_refusal : goal.returns-in_err-grid_refusal
returns-in_err-grid_refusal c =
    let e = c.in_err-grid_refusal.ensures in
    handed_on _ _ c.from_residual.ensures.1 ∙ e ∙ sym (write_refused _ _ (λ z. number-not_0 _ (e ∙ z)))

pub overflow_mul-frames : goal.overflow_mul-frames
overflow_mul-frames c = omega (arith, (grid-told _ (told (goal.at.overflow_mul-frames c).In_ok-grid_refusal)).few)

pub overflow_add-frames : goal.overflow_add-frames
overflow_add-frames c = omega (arith, (grid-told _ (told (goal.at.overflow_add-frames c).In_ok-grid_refusal)).few)

pub returns-then-frames-room : goal.returns-then-frames-room
returns-then-frames-room c = sym (write_room _ _ (told (goal.at.returns-then-frames-room c).In_ok-grid_refusal) c.if-frames-room.true)

pub returns : goal.returns
returns c = sym (write_none _ _ (told (goal.at.returns c).In_ok-grid_refusal) c.if-frames-room.false)
