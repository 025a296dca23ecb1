-- `cues::read_refusal` meets its contract: the chunk's number, and then the room. Assumes nothing.
use mathlib.Core.Path.{◌≡◌, sym, ◌∙◌}
use native.Mathlib.Omega.{arith}
use Rattle.numbers.specs.Refusals.{first_of}
use Rattle.numbers.proofs.Outcomes.{handed_on, number-not_0}
use Rattle.cues.specs.Calls.{chunk_rows}
use Rattle.cues.proofs.Calls.{chunk_told, read_refused, read_room, read_none}
use Rattle.cues.proofs.read_refusal.Goals.{In_ok-chunk_refusal}
use Rattle.cues.proofs.read_refusal.Goals as goal

told : (c : In_ok-chunk_refusal) → first_of (chunk_rows c.args.chunk.now) ≡ 0
told c = sym c.in_ok-chunk_refusal.ensures

pub returns-in_err-chunk_refusal : goal.returns-in_err-chunk_refusal
returns-in_err-chunk_refusal c =
    let e = c.in_err-chunk_refusal.ensures in
    handed_on _ _ c.from_residual.ensures.1 ∙ e ∙ sym (read_refused _ _ (λ z. number-not_0 _ (e ∙ z)))

pub point_count-requires : goal.point_count-requires
point_count-requires c = omega (arith, (chunk_told _ (told (goal.at.point_count-requires c).In_ok-chunk_refusal)).whole)

pub returns-then-point_count-room : goal.returns-then-point_count-room
returns-then-point_count-room c = sym (read_room _ _ (told (goal.at.returns-then-point_count-room c).In_ok-chunk_refusal) (omega (arith, c.if-point_count-room.true, c.point_count.ensures)))

pub returns : goal.returns
returns c = sym (read_none _ _ (told (goal.at.returns c).In_ok-chunk_refusal) (omega (arith, c.if-point_count-room.false, c.point_count.ensures)))
