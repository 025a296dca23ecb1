-- `label_tracks::frame_at` meets its contract: a listed frame's time is not held. Assumes nothing.
use native.Mathlib.Omega.{arith}
use mathlib.Core.Path.{◌≡◌, ap, ◌∙◌}
use Prim.Native.Nat.{ℕ}
use lib.ListN.{drop}
use Rattle.label_times.specs.Frames.{frame_for}
use Rattle.label_lines.specs.Lines.{time_of}
use Rattle.label_times.proofs.Frames.{rate_some, rate_most, time_unheld, time_within, time_frame}
use Rattle.label_tracks.proofs.frame_at.Goals as goal

pub frame_for-requires : goal.frame_for-requires
frame_for-requires c =
    let rate = c.args.rate in
    let good = c.requires.rate_value in
    let u = time_of (drop c.args.at c.args.text.now) in
    let there = c.requires.text_value_2 in
    let same : c.time_at.result ≡ u = c.time_at.ensures ∙ time_unheld rate (rate_some rate good) (rate_most rate good) u there in
    let top = time_frame rate (rate_some rate good) (rate_most rate good) u there in
    record { u_bound = omega (arith, same, time_within rate (rate_some rate good) (rate_most rate good) u there); rate_value = good }

pub overflow_cast-result : goal.overflow_cast-result
overflow_cast-result c =
    let rate = c.args.rate in
    let good = c.requires.rate_value in
    let u = time_of (drop c.args.at c.args.text.now) in
    let there = c.requires.text_value_2 in
    let same : c.time_at.result ≡ u = c.time_at.ensures ∙ time_unheld rate (rate_some rate good) (rate_most rate good) u there in
    let top = time_frame rate (rate_some rate good) (rate_most rate good) u there in
    let f = c.frame_for.ensures ∙ ap (λ (k : ℕ). frame_for k rate) same in omega (arith, f, top)

pub returns : goal.returns
returns c =
    let rate = c.args.rate in
    let good = c.requires.rate_value in
    let u = time_of (drop c.args.at c.args.text.now) in
    let there = c.requires.text_value_2 in
    let same : c.time_at.result ≡ u = c.time_at.ensures ∙ time_unheld rate (rate_some rate good) (rate_most rate good) u there in
    let top = time_frame rate (rate_some rate good) (rate_most rate good) u there in
    let f = c.frame_for.ensures ∙ ap (λ (k : ℕ). frame_for k rate) same in (f, omega (arith, f, top))
