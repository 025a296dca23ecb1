-- `label_cues::labels_to_cues` meets its contract: the text's number, then the room, then the head and the points behind it. Assumes nothing.
use mathlib.Core.Path.{◌≡◌, refl, sym, ap, ◌∙◌}
use mathlib.Core.List.{◌++◌}
use Prim.Native.Nat.{ℕ, ◌+◌, ◌*◌, ◌≤◌}
use native.Mathlib.Omega.{arith}
use lib.ListN.{length}
use Rattle.numbers.specs.Limits.{most_frame}
use Rattle.numbers.specs.Lists.{over}
use Rattle.numbers.specs.Refusals.{first_of}
use Rattle.numbers.proofs.Outcomes.{number-not_0, lists_refused, lists_on, lists_done}
use Rattle.texts.proofs.Puts.{put_then}
use Rattle.texts.proofs.Overs.{over-front}
use Rattle.cue_points.specs.Chunks.{offsets_of, head_of, points_from, chunk_of, cue_bytes}
use Rattle.cues.proofs.Chunks.{offsets_length, head_is_twelve, chunk_length_lem}
use Rattle.label_tracks.specs.Tracks.{text_times, text_frames, text_rows}
use Rattle.label_tracks.proofs.Frames.{Readable, text-told, frames_long}
use Rattle.lists.proofs.Grids.{counted-told}
use Rattle.label_cues.specs.Calls.{labels_to_cues_number}
use Rattle.label_cues.proofs.Calls.{labels_refused, labels_room, labels_none}
use Rattle.label_cues.proofs.labels_to_cues.Goals.{In_ok-n}
use Rattle.label_cues.proofs.labels_to_cues.Goals as goal

-- past the refusal the text is readable, and its lines are as many as its frames, few enough to count
told : (c : In_ok-n) → (first_of (text_rows c.args.rate c.args.text.now) ≡ 0) × (c.in_ok-n.n ≡ length (text_times c.args.text.now))
told c = counted-told _ _ c.in_ok-n.ensures refl

ready : (c : In_ok-n) → Readable c.args.rate c.args.text.now
ready c = text-told c.args.rate c.args.text.now (told c).0

count : (c : In_ok-n) → c.in_ok-n.n ≡ length (text_frames c.args.rate c.args.text.now)
count c = (told c).1 ∙ sym (frames_long c.args.rate (text_times c.args.text.now))

few : (c : In_ok-n) → c.in_ok-n.n ≤ most_frame + 1
few c = omega (arith, count c, (ready c).grid.few)

pub returns-in_err-n : goal.returns-in_err-n
returns-in_err-n c =
    let e = c.in_err-n.ensures.number_is in
    lists_on _ _ _ _ _ c.from_residual.ensures.1
    (e ∙ sym (labels_refused c.args.text.now c.args.rate (length c.args.chunk.now) (λ z. number-not_0 _ (e ∙ z))))

pub overflow_mul-bytes : goal.overflow_mul-bytes
overflow_mul-bytes c = omega (arith, few (goal.at.overflow_mul-bytes c).In_ok-n)

pub overflow_add-bytes : goal.overflow_add-bytes
overflow_add-bytes c = omega (arith, few (goal.at.overflow_add-bytes c).In_ok-n)

pub returns-then-bytes-chunk : goal.returns-then-bytes-chunk
returns-then-bytes-chunk c =
    lists_refused _ _ _ _
    (sym (labels_room c.args.text.now c.args.rate (length c.args.chunk.now) (told (goal.at.returns-then-bytes-chunk c).In_ok-n).0
    (omega (arith, c.if-bytes-chunk.true, count (goal.at.returns-then-bytes-chunk c).In_ok-n))))
    (λ z. omega arith) refl

pub overflow_cast-n : goal.overflow_cast-n
overflow_cast-n c = omega (arith, few (goal.at.overflow_cast-n c).In_ok-n)

pub put_head-requires : goal.put_head-requires
put_head-requires c = record { in_bounds = omega (arith, c.if-bytes-chunk.false); n_bound = few (goal.at.put_head-requires c).In_ok-n }

pub put_points-requires : goal.put_points-requires
put_points-requires c =
    let r = ready (goal.at.put_points-requires c).In_ok-n in record { text_in_bounds = omega (arith, count (goal.at.put_points-requires c).In_ok-n, c.if-bytes-chunk.false, c.put_head.auto.out); text_len_bound = r.grid.few; rate_value = r.rated; text_value = r.lines; text_value_2 = r.times }

pub returns : goal.returns
unfolding cue_bytes chunk_of
returns c =
    let text = c.args.text.now in
    let chunk = c.args.chunk.now in
    let rate = c.args.rate in
    let frames = text_frames rate text in
    let n : length (offsets_of frames) ≡ length frames = offsets_length frames in
    let m = count (goal.at.returns c).In_ok-n in
    let head = c.put_head.ensures in
    let points = c.put_points.ensures in
    let twelve : c.put_head.result ≡ 12 = head.end_is
    ∙ ap (λ (k : ℕ). 0 + k) (head_is_twelve c.in_ok-n.n) in
    let head-there = rw twelve at head in
    let put = put_then head-there points in
    let same : c.in_ok-n.n ≡ length (offsets_of frames) = m ∙ sym n in
    lists_done (labels_to_cues_number text rate (length chunk)) (cue_bytes frames) chunk _ c.put_points.new.out
    (labels_none text rate (length chunk) (told (goal.at.returns c).In_ok-n).0 (omega (arith, m, c.if-bytes-chunk.false)))
    refl
    (ap (λ (k : ℕ). 12 + 24 * k) same ∙ sym (chunk_length_lem (offsets_of frames)))
    (put.bytes_are ∙ ap (λ (k : ℕ). over chunk 0 (head_of k ++ points_from 0 (offsets_of frames))) same ∙ over-front chunk (cue_bytes frames))
