use mathlib.Core.Path.{◌≡◌, refl, sym, ap, ◌∙◌}
use Prim.Native.Nat.{ℕ, ◌+◌, ◌*◌, ◌<◌}
use native.Mathlib.Omega.{arith}
use lib.ListN.{length, get_or, drop}
use Rattle.numbers.specs.Lists.{over}
use Rattle.texts.specs.Texts.{Put}
use Rattle.texts.proofs.Puts.{put-none, put_then}
use Rattle.times.specs.Micros.{sample_of}
use Rattle.cue_points.specs.Chunks.{offsets_of, point}
use Rattle.cues.proofs.Chunks.{points_to, points_none, points_more, points_all, points_length, points_to_length, offsets_length}
use Rattle.label_times.specs.Frames.{frame_for}
use Rattle.label_lines.specs.Lines.{line_length, time_of}
use Rattle.label_tracks.specs.Tracks.{frames_for, text_times, text_frames}
use Rattle.label_tracks.proofs.Tracks.{times_from, from_end, from_step, from_line, from-holds}
use Rattle.label_tracks.proofs.Frames.{times_here, times_rest, frames_step, frames_long}
use Rattle.label_cues.proofs.Calls.{next_entry}
use Rattle.label_cues.proofs.put_points.Goals.{In-loop-at}
use Rattle.label_cues.proofs.put_points.Goals as goal

pub loop-at-init : goal.loop-at-init
loop-at-init c =
    let text = c.args.text.now in
    let rate = c.args.rate in (
      omega arith,
      c.requires.text_value,
      c.requires.text_value_2,
      omega (arith, frames_long rate (text_times text)),
      refl,
      rw (points_none (text_frames rate text)) (put-none c.args.out.now 12 (omega (arith, c.requires.text_in_bounds))),
    )

pub frame_at-t-requires : goal.frame_at-t-requires
frame_at-t-requires c =
    let text = c.args.text.now in
    let at = c.loop-at.at in record { text_value = from_line text at (omega arith) c.loop-at.invariant.1; rate_value = c.requires.rate_value; text_value_2 = times_here c.args.rate text at (at + line_length (drop at text)) (omega arith) refl c.loop-at.invariant.2 }

pub overflow_mul-t : goal.overflow_mul-t
overflow_mul-t c = omega (arith, c.frame_at-t.ensures.1)

pub overflow_add-t : goal.overflow_add-t
overflow_add-t c = omega (arith, c.frame_at-t.ensures.1)

-- a line that is left has a frame
left : (c : In-loop-at) → c.loop-at.i < length (text_frames c.args.rate c.args.text.now)
left c =
    let text = c.args.text.now in
    let at = c.loop-at.at in
    omega (arith, ap length (from_step text at (omega arith) (at + line_length (drop at text)) refl).1, c.loop-at.invariant.3)

pub put_point-end-requires : goal.put_point-end-requires
put_point-end-requires c =
    let here = left (goal.at.put_point-end-requires c).In-loop-at in
    let long = points_to_length (text_frames c.args.rate c.args.text.now) c.loop-at.i (omega (arith, here)) in
    record {
      at_in_bounds = omega (arith, here, long, c.requires.text_in_bounds, c.loop-at.invariant.5.end_is);
      i_le_most_frame = omega (arith, here, c.requires.text_len_bound);
    }

pub line_end-at-requires : goal.line_end-at-requires
line_end-at-requires c =
    from_line c.args.text.now c.loop-at.at (omega arith) c.loop-at.invariant.1

pub overflow_add-i : goal.overflow_add-i
overflow_add-i c = omega (arith, left (goal.at.overflow_add-i c).In-loop-at, c.requires.text_len_bound)

pub loop-at-smaller : goal.loop-at-smaller
loop-at-smaller c = omega (arith, c.line_end-at.ensures.0, c.line_end-at.ensures.1)

pub loop-at-preserved : goal.loop-at-preserved
loop-at-preserved c =
    let text = c.args.text.now in
    let out = c.args.out.now in
    let rate = c.args.rate in
    let frames = text_frames rate text in
    let at = c.loop-at.at in
    let i = c.loop-at.i in
    let fine = c.loop-at.invariant.1 in
    let end = c.line_end-at.result in
    let e = c.line_end-at.ensures.0 in
    let line = from_line text at (omega arith) fine in
    let more = ap length (from_step text at (omega arith) end e).1 in
    let next = next_entry frames i (frame_for (time_of (drop at text)) rate) (frames_for rate (times_from text end))
    (omega (arith, more, c.loop-at.invariant.3)) (c.loop-at.invariant.4 ∙ frames_step rate text at end (omega arith) e) in
    let p = c.put_point-end in
    let t = c.frame_at-t.ensures.0 ∙ sym next.0 in
    let this : Put c.loop-at.out c.loop-at.end (point i (sample_of (get_or frames i 0))) p.result p.new.out
    = rw t at p.ensures in
    let put : Put out 12 (points_to frames (i + 1)) p.result p.new.out
    = rw (points_more frames i (omega (arith, more, c.loop-at.invariant.3))) (put_then c.loop-at.invariant.5 this) in (
      c.line_end-at.ensures.1,
      sym (from-holds text at (omega arith) end e line) ∙ fine,
      times_rest rate text at end (omega arith) e c.loop-at.invariant.2,
      omega (arith, more, c.loop-at.invariant.3),
      next.1,
      put,
    )

pub returns : goal.returns
returns c =
    let text = c.args.text.now in
    let frames = text_frames c.args.rate text in
    let none = ap length (from_end text c.loop-at.at c.loop-at-test.false).1 in
    let all : c.loop-at.i ≡ length frames = omega (arith, none, c.loop-at.invariant.3) in
    let put = c.loop-at.invariant.5 in
    record {
      end_is = ap (λ (n : ℕ). 12 + n) (sym (points_length (offsets_of frames) 0 ∙ ap (λ (n : ℕ). 24 * n) (offsets_length frames)));
      fits = c.requires.text_in_bounds;
      bytes_are = put.bytes_are ∙ ap (over c.args.out.now 12) (points_all frames c.loop-at.i all);
    }
