use mathlib.Core.Path.{◌≡◌, refl, sym, ap, ◌∙◌}
use mathlib.Core.Bool.{true}
use mathlib.Core.List.{[]}
use Prim.Native.Nat.{ℕ, ◌+◌, ◌≤◌}
use native.Mathlib.Omega.{arith}
use lib.ListN.{length}
use Rattle.numbers.specs.Limits.{rate_fine}
use Rattle.numbers.specs.Refusals.{first_of}
use Rattle.texts.proofs.Texts.{fails, holds}
use Rattle.times.specs.Micros.{microseconds}
use Rattle.lists.specs.declared.Reading.{Reading}
use Rattle.lists.specs.Grids.{unread, read_number}
use Rattle.lists.proofs.Grids.{counted_refused, counted_on, counted-done}
use Rattle.cue_points.specs.Chunks.{chunk_length, chunk_frames, head_fine, all_from, point_fine, offset_read, count_of}
use Rattle.cue_points.proofs.Heads.{head_says}
use Rattle.cues.proofs.Runs.{all_pass, all_fail, all_end, all_start}
use Rattle.cues.proofs.Calls.{chunk_head, chunk_points, chunk_judged, judged_from, judged_start, judged_step, judged_end}
use Rattle.label_times.proofs.Frames.{rate_some}
use Rattle.label_lines.specs.Lines.{label_line}
use Rattle.labels.proofs.Written.{labels_none, labels_all, labels_longer, line_most}
use Rattle.label_cues.specs.Calls.{rated_rows}
use Rattle.label_cues.proofs.Calls.{rated_rate, rated_chunk, frames_count, frames_entry}
use mathlib.Core.Bool.{not}
use Rattle.label_cues.proofs.chunk_judged.Goals.{After-line_length-total, After-point_count-n, After-loop-i, Else-not-head_fine, Else-not-rate_fine}
use Rattle.label_cues.proofs.chunk_judged.Goals as goal

rate-holds : (c : Else-not-rate_fine) → rate_fine c.args.rate ≡ true
rate-holds c = holds _ _ c.rate_fine.ensures (ap not c.if-not-rate_fine.false)

head-holds : (c : Else-not-head_fine) → head_fine c.args.chunk.now ≡ true
head-holds c = holds _ _ c.head_fine.ensures (ap not c.if-not-head_fine.false)

whole : (c : After-point_count-n) → length c.args.chunk.now ≡ chunk_length
    c.point_count-n.result
whole c =
    let head-holds-here : head_fine c.args.chunk.now ≡ true = holds _ _ c.head_fine.ensures (ap not c.if-not-head_fine.false) in
    (head_says _ (head-holds-here)).whole ∙ ap chunk_length (sym c.point_count-n.ensures)

-- the line that is added: that of the frame of point i
long : (c : After-line_length-total)
    → c.line_length-total.result ≡ length (label_line (microseconds c.frame_at.result
    c.args.rate))
long c = c.line_length-total.ensures ∙ ap (λ (u : ℕ). length (label_line u)) c.microseconds-u.ensures

most : (c : After-line_length-total) → c.line_length-total.result ≤ 41
most c =
    let rate-holds-here : rate_fine c.args.rate ≡ true = holds _ _ c.rate_fine.ensures (ap not c.if-not-rate_fine.false) in
    omega (
      arith,
      long c,
      line_most c.args.rate (rate-holds-here)
          c.frame_at.result c.frame_at.ensures.1,
    )

-- all are read
judged : (c : After-loop-i) → read_number c.loop-i.j true [] ≡ first_of (rated_rows c.args.chunk.now c.args.rate)
judged c =
    let rate-holds-here : rate_fine c.args.rate ≡ true = holds _ _ c.rate_fine.ensures (ap not c.if-not-rate_fine.false) in
    let head-holds-here : head_fine c.args.chunk.now ≡ true = holds _ _ c.head_fine.ensures (ap not c.if-not-head_fine.false) in
    let chunk = c.args.chunk.now in
    let n = c.point_count-n.result in
    let same = c.point_count-n.ensures in
    let past = c.loop-i-test.false in
    let points : all_from (point_fine chunk) 0 (count_of chunk) ≡ true
    = ap (all_from (point_fine chunk) 0) (sym same) ∙ c.loop-i.invariant.0 ∙ all_end (point_fine chunk) c.loop-i.i n past in
    sym (rated_chunk chunk c.args.rate (rate-holds-here)
    ∙ chunk_judged chunk (head-holds-here) points ∙ judged_start chunk unread (count_of chunk) ∙ ap (judged_from chunk unread 0) (sym same)
    ∙ c.loop-i.invariant.1 ∙ judged_end chunk c.loop-i.j c.loop-i.i n past)

pub returns-then-not-rate_fine : goal.returns-then-not-rate_fine
returns-then-not-rate_fine c =
    counted_refused _ _ _ (sym (rated_rate c.args.chunk.now c.args.rate (fails _ _ c.rate_fine.ensures (ap not c.if-not-rate_fine.true))))
    (λ z. omega arith) refl

pub returns-then-not-head_fine : goal.returns-then-not-head_fine
returns-then-not-head_fine c =
    let chunk = c.args.chunk.now in
    counted_refused _ _ _
    (sym (rated_chunk chunk c.args.rate (rate-holds (goal.at.returns-then-not-head_fine c).Else-not-rate_fine)
    ∙ chunk_head chunk (fails _ _ c.head_fine.ensures (ap not c.if-not-head_fine.true))))
    (λ z. omega arith) refl

pub point_count-n-requires : goal.point_count-n-requires
point_count-n-requires c = omega (arith, (head_says _ (head-holds (goal.at.point_count-n-requires c).Else-not-head_fine)).whole)

pub loop-i-init : goal.loop-i-init
loop-i-init c =
    let chunk = c.args.chunk.now in
    let n = c.point_count-n.result in (
      all_start (point_fine chunk) n,
      ap (λ (j : Reading). judged_from chunk j 0 n) (sym c.unread-j.ensures),
      omega arith,
      sym (ap length (labels_none c.args.rate (chunk_frames chunk))),
    )

pub point_fine-requires : goal.point_fine-requires
point_fine-requires c = let w = whole (goal.at.point_fine-requires c).After-point_count-n in record { i_bound = omega (arith, w); i_in_bounds = omega (arith, w) }

pub returns-then-not-point_fine : goal.returns-then-not-point_fine
returns-then-not-point_fine c =
    let chunk = c.args.chunk.now in
    let n = c.point_count-n.ensures in
    counted_refused _ _ _
    (sym (rated_chunk chunk c.args.rate (rate-holds (goal.at.returns-then-not-point_fine c).Else-not-rate_fine)
    ∙ chunk_points chunk (head-holds (goal.at.returns-then-not-point_fine c).Else-not-head_fine)
    (ap (all_from (point_fine chunk) 0) (sym n)
    ∙ c.loop-i.invariant.0
    ∙ all_fail (point_fine chunk) c.loop-i.i c.point_count-n.result (omega arith) (fails _ _ c.point_fine.ensures (ap not c.if-not-point_fine.true)))))
    (λ z. omega arith) refl

pub offset_at-requires : goal.offset_at-requires
offset_at-requires c = let w = whole (goal.at.offset_at-requires c).After-point_count-n in omega (arith, w)

pub frame_at-requires : goal.frame_at-requires
frame_at-requires c = let w = whole (goal.at.frame_at-requires c).After-point_count-n in omega (arith, w)

pub microseconds-u-requires : goal.microseconds-u-requires
microseconds-u-requires c = rate_some _ (rate-holds (goal.at.microseconds-u-requires c).Else-not-rate_fine)

pub overflow_add-total : goal.overflow_add-total
overflow_add-total c = omega (arith, most (goal.at.overflow_add-total c).After-line_length-total, c.loop-i.invariant.2)

pub loop-i-preserved : goal.loop-i-preserved
loop-i-preserved c =
    let chunk = c.args.chunk.now in
    let rate = c.args.rate in
    let frames = chunk_frames chunk in
    let n = c.point_count-n.result in
    let same = c.point_count-n.ensures in
    let i = c.loop-i.i in
    let entry = frames_entry chunk i (omega (arith, same)) in
    let t = c.frame_at.ensures.0 ∙ sym entry in
    let this = long (goal.at.loop-i-preserved c).After-line_length-total ∙ ap (λ (k : ℕ). length (label_line (microseconds k rate))) t in
    let longer = labels_longer rate frames i (omega (arith, same, frames_count chunk)) in (
      c.loop-i.invariant.0 ∙ all_pass (point_fine chunk) i n (omega arith) (holds _ _ c.point_fine.ensures
          (ap not c.if-not-point_fine.false)),
      c.loop-i.invariant.1 ∙ judged_step chunk c.loop-i.j i n (omega arith)
          ∙ ap (λ (j : Reading). judged_from chunk j (i + 1) n) (sym (c.read_offset-j.ensures
          ∙ ap (offset_read c.loop-i.j) c.offset_at.ensures)),
      omega (arith, most (goal.at.loop-i-preserved c).After-line_length-total, c.loop-i.invariant.2),
      omega (arith, this, longer, c.loop-i.invariant.3),
    )

pub returns-in_err-read_refusal : goal.returns-in_err-read_refusal
returns-in_err-read_refusal c =
    counted_on _ _ _ _ c.from_residual.ensures.1 (c.in_err-read_refusal.ensures ∙ judged (goal.at.returns-in_err-read_refusal c).After-loop-i)

pub returns : goal.returns
returns c =
    let chunk = c.args.chunk.now in
    let all = labels_all c.args.rate (chunk_frames chunk) c.loop-i.i (omega (arith, c.point_count-n.ensures, frames_count chunk)) in
    counted-done _ _ _ (sym (c.in_ok-read_refusal.ensures ∙ judged (goal.at.returns c).After-loop-i)) refl (c.loop-i.invariant.3 ∙ ap length all)
