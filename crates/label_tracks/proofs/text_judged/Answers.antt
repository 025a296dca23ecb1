use mathlib.Core.Path.{◌≡◌, refl, sym, ap, ◌∙◌}
use mathlib.Core.Bool.{true}
use mathlib.Core.List.{[]}
use native.Mathlib.Omega.{arith}
use lib.ListN.{length, drop}
use Rattle.numbers.specs.Limits.{rate_fine}
use Rattle.numbers.specs.Refusals.{first_of}
use Rattle.texts.proofs.Texts.{fails, holds}
use Rattle.lists.specs.declared.Reading.{Reading}
use Rattle.lists.specs.Grids.{read_number}
use Rattle.lists.proofs.Grids.{counted_refused, counted_on, counted-done}
use Rattle.label_times.specs.Frames.{time_read}
use Rattle.label_times.proofs.Frames.{time_read_held}
use Rattle.label_lines.specs.Lines.{line_fine, time_of}
use Rattle.label_tracks.specs.Tracks.{text_times, text_rows}
use Rattle.label_tracks.proofs.Tracks.{times_from, from_end, from_step, from_fails, from-holds}
use Rattle.label_tracks.proofs.Frames.{text_rate, text_lines, text_judged, judged_from, judged_step, judged_end}
use mathlib.Core.Bool.{not}
use Rattle.label_tracks.proofs.text_judged.Goals.{After-loop-at, Else-not-line_fine, Else-not-rate_fine}
use Rattle.label_tracks.proofs.text_judged.Goals as goal

rate-holds : (c : Else-not-rate_fine) → rate_fine c.args.rate ≡ true
rate-holds c = holds _ _ c.rate_fine.ensures (ap not c.if-not-rate_fine.false)

line-holds : (c : Else-not-line_fine) → line_fine (drop c.loop-at.at c.args.text.now) ≡ true
line-holds c = holds _ _ c.line_fine.ensures (ap not c.if-not-line_fine.false)

-- all are read
judged : (c : After-loop-at) → read_number c.loop-at.j true [] ≡ first_of (text_rows c.args.rate c.args.text.now)
judged c =
    let rate-holds-here : rate_fine c.args.rate ≡ true = holds _ _ c.rate_fine.ensures (ap not c.if-not-rate_fine.false) in
    let text = c.args.text.now in
    let rate = c.args.rate in
    let none = from_end text c.loop-at.at c.loop-at-test.false in
    sym (text_judged rate text (rate-holds-here) (c.loop-at.invariant.1 ∙ none.0) ∙ c.loop-at.invariant.4
    ∙ judged_end rate c.loop-at.j (times_from text c.loop-at.at) none.1)

pub returns-then-not-rate_fine : goal.returns-then-not-rate_fine
returns-then-not-rate_fine c =
    counted_refused _ _ _ (sym (text_rate c.args.rate c.args.text.now (fails _ _ c.rate_fine.ensures (ap not c.if-not-rate_fine.true))))
    (λ z. omega arith) refl

pub loop-at-init : goal.loop-at-init
loop-at-init c =
    let text = c.args.text.now in
    (omega arith, refl, omega arith, omega arith, ap (λ (j : Reading). judged_from c.args.rate j (text_times text)) (sym c.unread-j.ensures))

pub returns-then-not-line_fine : goal.returns-then-not-line_fine
returns-then-not-line_fine c =
    let text = c.args.text.now in
    let fine = c.loop-at.invariant.1 ∙ from_fails text c.loop-at.at (omega arith) (fails _ _ c.line_fine.ensures (ap not c.if-not-line_fine.true)) in
    counted_refused _ _ _ (sym (text_lines c.args.rate text (rate-holds (goal.at.returns-then-not-line_fine c).Else-not-rate_fine) fine)) (λ z. omega arith) refl

pub time_at-requires : goal.time_at-requires
time_at-requires c = line-holds (goal.at.time_at-requires c).Else-not-line_fine

pub read_time-j-requires : goal.read_time-j-requires
read_time-j-requires c = rate-holds (goal.at.read_time-j-requires c).Else-not-rate_fine

pub line_end-at-requires : goal.line_end-at-requires
line_end-at-requires c = line-holds (goal.at.line_end-at-requires c).Else-not-line_fine

pub overflow_add-n : goal.overflow_add-n
overflow_add-n c = omega (arith, c.loop-at.invariant.2)

pub loop-at-smaller : goal.loop-at-smaller
loop-at-smaller c = omega (arith, c.line_end-at.ensures.0, c.line_end-at.ensures.1)

pub loop-at-preserved : goal.loop-at-preserved
loop-at-preserved c =
    let text = c.args.text.now in
    let rate = c.args.rate in
    let at = c.loop-at.at in
    let end = c.line_end-at.result in
    let e = c.line_end-at.ensures.0 in
    let line = line-holds (goal.at.loop-at-preserved c).Else-not-line_fine in
    let step = (from_step text at (omega arith) end e).1 in
    let more = ap length step in
    let u = time_of (drop at text) in
    let read : c.read_time-j.result ≡ time_read rate c.loop-at.j u
    = c.read_time-j.ensures ∙ ap (time_read rate c.loop-at.j) c.time_at.ensures
    ∙ time_read_held rate (rate-holds (goal.at.loop-at-preserved c).Else-not-rate_fine) c.loop-at.j u in (
      c.line_end-at.ensures.1,
      c.loop-at.invariant.1 ∙ from-holds text at (omega arith) end e line,
      omega (arith, e, c.loop-at.invariant.2),
      omega (arith, more, c.loop-at.invariant.3),
      c.loop-at.invariant.4 ∙ ap (judged_from rate c.loop-at.j) step ∙ judged_step rate c.loop-at.j u (times_from text end)
          ∙ ap (λ (j : Reading). judged_from rate j (times_from text end)) (sym read),
    )

pub returns-in_err-read_refusal : goal.returns-in_err-read_refusal
returns-in_err-read_refusal c =
    counted_on _ _ _ _ c.from_residual.ensures.1 (c.in_err-read_refusal.ensures ∙ judged (goal.at.returns-in_err-read_refusal c).After-loop-at)

pub returns : goal.returns
returns c =
    let text = c.args.text.now in
    let none = ap length (from_end text c.loop-at.at c.loop-at-test.false).1 in
    counted-done _ _ _ (sym (c.in_ok-read_refusal.ensures ∙ judged (goal.at.returns c).After-loop-at)) refl (omega (arith, none, c.loop-at.invariant.3))
