use mathlib.Core.List.{List}
use mathlib.Core.Path.{◌≡◌, sym, ap, ◌∙◌}
use Prim.Native.Nat.{ℕ, ◌+◌, ◌<◌}
use native.Mathlib.Omega.{arith}
use lib.ListN.{length, get_or}
use Rattle.numbers.specs.Lists.{over}
use Rattle.texts.specs.Texts.{Put}
use Rattle.texts.proofs.Puts.{put-none, put_then}
use Rattle.texts.proofs.Overs.{over-front}
use Rattle.times.specs.Micros.{microseconds}
use Rattle.cue_points.specs.Chunks.{chunk_frames, count_of, point_frame}
use Rattle.cues.proofs.Calls.{chunk_told}
use Rattle.label_times.proofs.Frames.{rate_some}
use Rattle.label_lines.specs.Lines.{label_line}
use Rattle.label_tracks.specs.Tracks.{label_bytes}
use Rattle.labels.proofs.Written.{labels_none, labels_more, labels_longer, labels_all, labels_part}
use Rattle.label_cues.proofs.Calls.{frames_count, frames_entry}
use Rattle.label_cues.proofs.put_lines.Goals as goal

pub point_count-n-requires : goal.point_count-n-requires
point_count-n-requires c = omega (arith, (chunk_told c.args.chunk.now c.requires.chunk_value).whole)

pub loop-i-init : goal.loop-i-init
loop-i-init c = rw (labels_none c.args.rate (chunk_frames c.args.chunk.now)) (put-none c.args.out.now 0 (omega arith))

pub frame_at-requires : goal.frame_at-requires
frame_at-requires c =
    omega (arith, (chunk_told c.args.chunk.now c.requires.chunk_value).whole, c.point_count-n.ensures)

pub microseconds-u-requires : goal.microseconds-u-requires
microseconds-u-requires c = rate_some _ c.requires.rate_value

-- the frame of point i is entry i
entry : (chunk : List ℕ) (i n t : ℕ) → n ≡ count_of chunk → i < n → t ≡ point_frame chunk i → t ≡ get_or (chunk_frames chunk) i 0
entry chunk i n t e h p = p ∙ sym (frames_entry chunk i (omega (arith, e)))

pub put_line-at-requires : goal.put_line-at-requires
put_line-at-requires c =
    let chunk = c.args.chunk.now in
    let frames = chunk_frames chunk in
    let rate = c.args.rate in
    let i = c.loop-i.i in
    let n = c.point_count-n.ensures in
    let t = entry chunk i c.point_count-n.result c.frame_at.result n (omega arith) c.frame_at.ensures.0 in
    let u = ap (λ (k : ℕ). length (label_line k)) (c.microseconds-u.ensures ∙ ap (λ (t : ℕ). microseconds t rate) t) in
    let more = labels_longer rate frames i (omega (arith, n, frames_count chunk)) in
    omega (arith, more, u, labels_part rate frames (i + 1), c.requires.chunk_in_bounds, c.loop-i.invariant.end_is)

pub loop-i-preserved : goal.loop-i-preserved
loop-i-preserved c =
    let chunk = c.args.chunk.now in
    let frames = chunk_frames chunk in
    let rate = c.args.rate in
    let i = c.loop-i.i in
    let n = c.point_count-n.ensures in
    let w = c.put_line-at in
    let t = entry chunk i c.point_count-n.result c.frame_at.result n (omega arith) c.frame_at.ensures.0 in
    let u = c.microseconds-u.ensures ∙ ap (λ (t : ℕ). microseconds t rate) t in
    let line : Put c.loop-i.out c.loop-i.at (label_line (microseconds (get_or frames i 0) rate)) w.result w.new.out = rw u at w.ensures in
    rw (labels_more rate frames i (omega (arith, n, frames_count chunk))) (put_then c.loop-i.invariant line)

pub returns : goal.returns
returns c =
    let frames = chunk_frames c.args.chunk.now in
    let out = c.args.out.now in
    let rate = c.args.rate in
    c.loop-i.invariant.bytes_are
    ∙ ap (over out 0) (labels_all rate frames c.loop-i.i (omega (arith, c.point_count-n.ensures, frames_count c.args.chunk.now)))
    ∙ over-front out (label_bytes rate frames)
