use native.Mathlib.Omega.{arith}
use mathlib.Core.Path.{◌≡◌, refl, sym, ap, ◌∙◌}
use mathlib.Core.List.{List}
use Prim.Native.Nat.{ℕ, ◌+◌, ◌≤◌, ◌<◌}
use lib.ListN.{length, drop, set}
use Rattle.numbers.proofs.Outcomes.{lists_on, lists_done}
use Rattle.labels.specs.Calls.{read_labels_number}
use Rattle.labels.proofs.Calls.{read_told}
use Rattle.numbers.specs.Lists.{listed}
use Rattle.label_times.specs.Frames.{frame_for}
use Rattle.label_lines.specs.Lines.{line_length, time_of}
use Rattle.label_tracks.specs.Tracks.{frames_for, text_times, text_frames}
use Rattle.label_tracks.proofs.Tracks.{times_from, from_end, from_step, from_line, from-holds}
use Rattle.label_tracks.proofs.Frames.{times_here, times_rest, frames_step, frames_long, Readable, text-told, fill_more, fill_all}
use borrow.Author.Rules.{rules}
use Rattle.labels.proofs.read_labels.Goals.{In-loop-at}
use Rattle.labels.proofs.read_labels.Goals as goal

-- past the refusal the track is readable
readable : (text : List ℕ) (rate room : ℕ) → read_labels_number text rate room ≡ 0 → Readable rate text × (length (text_times text) ≤ room)
readable text rate room z = let t = read_told text rate room z in (text-told rate text t.0, t.1)

pub returns-in_err-read_refusal : goal.returns-in_err-read_refusal
returns-in_err-read_refusal c = lists_on _ _ _ _ _ c.from_residual.ensures.1 c.in_err-read_refusal.ensures

pub loop-at-init : goal.loop-at-init
unfolding listed
loop-at-init c = let r = readable _ _ _ (sym c.in_ok-read_refusal.ensures) in (omega arith, r.0.lines, r.0.times, omega arith, refl, refl)

pub frame_at-requires : goal.frame_at-requires
frame_at-requires c =
    let text = c.args.text.now in
    let at = c.loop-at.at in
    record {
      text_value = from_line text at (omega arith) c.loop-at.invariant.1;
      rate_value = (readable _ _ _ (sym c.in_ok-read_refusal.ensures)).0.rated;
      text_value_2 = times_here c.args.rate text at (at + line_length (drop at text)) (omega arith) refl c.loop-at.invariant.2;
    }

-- a line that is left has a slot
slot : (c : In-loop-at) → c.loop-at.n < length c.args.frames.now
slot c =
    let text = c.args.text.now in
    let at = c.loop-at.at in
    let more = ap length (from_step text at (omega arith) (at + line_length (drop at text)) refl).1 in
    omega (arith, more, c.loop-at.invariant.3, (readable _ _ _ (sym c.in_ok-read_refusal.ensures)).1)

pub offset_bounds-frames-n : goal.offset_bounds-frames-n
offset_bounds-frames-n c = let h = slot (goal.at.offset_bounds-frames-n c).In-loop-at in search rules

pub bounds-frames-n : goal.bounds-frames-n
bounds-frames-n c = omega (arith, slot (goal.at.bounds-frames-n c).In-loop-at)

pub overflow_add-n : goal.overflow_add-n
overflow_add-n c = omega (arith, slot (goal.at.overflow_add-n c).In-loop-at)

pub line_end-at-requires : goal.line_end-at-requires
line_end-at-requires c = from_line c.args.text.now c.loop-at.at (omega arith) c.loop-at.invariant.1

pub loop-at-smaller : goal.loop-at-smaller
loop-at-smaller c = omega (arith, c.line_end-at.ensures.0, c.line_end-at.ensures.1)

pub loop-at-preserved : goal.loop-at-preserved
loop-at-preserved c =
    let text = c.args.text.now in
    let lent = c.args.frames.now in
    let rate = c.args.rate in
    let at = c.loop-at.at in
    let n = c.loop-at.n in
    let r = readable _ _ _ (sym c.in_ok-read_refusal.ensures) in
    let long = frames_long rate (text_times text) in
    let fine = c.loop-at.invariant.1 in
    let end = c.line_end-at.result in
    let e = c.line_end-at.ensures.0 in
    let line = from_line text at (omega arith) fine in
    let more = ap length (from_step text at (omega arith) end e).1 in
    let rest = frames_for rate (times_from text end) in
    let t = c.frame_at.ensures.0 in
    let filled = fill_more (text_frames rate text) lent n (frame_for (time_of (drop at text)) rate) rest (omega (arith, long, more, c.loop-at.invariant.3)) (omega
    (arith, long, r.1)) (c.loop-at.invariant.4 ∙ frames_step rate text at end (omega arith) e) in (
      c.line_end-at.ensures.1,
      sym (from-holds text at (omega arith) end e line) ∙ fine,
      times_rest rate text at end (omega arith) e c.loop-at.invariant.2,
      omega (arith, more, c.loop-at.invariant.3),
      filled.1,
      ap (set c.loop-at.frames n) t ∙ ap (λ (d : List ℕ). set d n (frame_for (time_of (drop at text)) rate)) c.loop-at.invariant.5 ∙ filled.0,
    )

pub returns : goal.returns
returns c =
    let text = c.args.text.now in
    let lent = c.args.frames.now in
    let rate = c.args.rate in
    let n = c.loop-at.n in
    let long = frames_long rate (text_times text) in
    let none = ap length (from_end text c.loop-at.at c.loop-at-test.false).1 in
    let all : n ≡ length (text_frames rate text) = omega (arith, none, long, c.loop-at.invariant.3) in
    lists_done (read_labels_number text rate (length lent)) (text_frames rate text) lent _ c.loop-at.frames (sym c.in_ok-read_refusal.ensures) refl all
    (c.loop-at.invariant.5 ∙ fill_all (text_frames rate text) lent n all)
