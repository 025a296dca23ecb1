-- `cues::write_cues` meets its contract: the head, and the points behind it. Assumes nothing.
use mathlib.Core.Path.{◌≡◌, refl, sym, ap, ◌∙◌}
use mathlib.Core.List.{◌++◌}
use Prim.Native.Nat.{ℕ, ◌+◌, ◌*◌, ◌≤◌}
use native.Mathlib.Omega.{arith}
use lib.ListN.{length}
use Rattle.numbers.specs.Lists.{over}
use Rattle.texts.proofs.Puts.{put_then}
use Rattle.texts.proofs.Overs.{over-front}
use Rattle.cue_points.specs.Chunks.{offsets_of, head_of, points_from, chunk_of, cue_bytes, chunk_length}
use Rattle.cues.specs.Calls.{write_cues_number}
use Rattle.numbers.specs.Limits.{most_frame}
use Rattle.numbers.proofs.Outcomes.{lists_on, lists_done}
use Rattle.lists.proofs.Grids.{Grid}
use Rattle.cues.proofs.Chunks.{offsets_length, head_is_twelve, chunk_length_lem}
use Rattle.cues.proofs.Calls.{write_told}
use Rattle.cues.proofs.write_cues.Goals.{In_ok-write_refusal}
use Rattle.cues.proofs.write_cues.Goals as goal

-- past the refusal the frames are a grid, and their chunk fits
ready : (c : In_ok-write_refusal) → Grid c.args.frames.now
    × (chunk_length (length c.args.frames.now) ≤ length c.args.chunk.now)
ready c = write_told _ _ (sym c.in_ok-write_refusal.ensures)

few : (c : In_ok-write_refusal) → length c.args.frames.now ≤ most_frame + 1
few c = (ready c).0.few

pub returns-in_err-write_refusal : goal.returns-in_err-write_refusal
returns-in_err-write_refusal c = lists_on _ _ _ _ _ c.from_residual.ensures.1 c.in_err-write_refusal.ensures

pub overflow_cast-frames : goal.overflow_cast-frames
overflow_cast-frames c = omega (arith, few (goal.at.overflow_cast-frames c).In_ok-write_refusal)

pub put_head-requires : goal.put_head-requires
put_head-requires c = record { in_bounds = omega (arith, (ready (goal.at.put_head-requires c).In_ok-write_refusal).1); n_bound = few (goal.at.put_head-requires c).In_ok-write_refusal }

pub put_points-requires : goal.put_points-requires
put_points-requires c =
    record { frames_in_bounds = omega (arith, (ready (goal.at.put_points-requires c).In_ok-write_refusal).1, c.put_head.auto.out); frames_value = (ready (goal.at.put_points-requires c).In_ok-write_refusal).0.listed; frames_len_bound = few (goal.at.put_points-requires c).In_ok-write_refusal }

pub overflow_mul-result : goal.overflow_mul-result
overflow_mul-result c = omega (arith, few (goal.at.overflow_mul-result c).In_ok-write_refusal)

pub overflow_add-result : goal.overflow_add-result
overflow_add-result c = omega (arith, few (goal.at.overflow_add-result c).In_ok-write_refusal)

pub returns : goal.returns
unfolding cue_bytes chunk_of
returns c =
    let frames = c.args.frames.now in
    let chunk = c.args.chunk.now in
    let n : length (offsets_of frames) ≡ length frames = offsets_length frames in
    let head = c.put_head.ensures in
    let points = c.put_points.ensures in
    let twelve : c.put_head.result ≡ 12 = head.end_is
    ∙ ap (λ (k : ℕ). 0 + k) (head_is_twelve (length frames)) in
    let head-there = rw twelve at head in
    let put = put_then head-there points in
    let number = sym c.in_ok-write_refusal.ensures in
    lists_done (write_cues_number frames (length chunk)) (cue_bytes frames) chunk _ c.put_points.new.out number refl
    (sym (chunk_length_lem (offsets_of frames) ∙ ap (λ (k : ℕ). 12 + 24 * k) n))
    (put.bytes_are ∙ ap (λ (k : ℕ). over chunk 0 (head_of k ++ points_from 0 (offsets_of frames))) (sym n) ∙ over-front chunk (cue_bytes frames))
