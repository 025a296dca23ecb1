use mathlib.Core.Bool.{true}
use mathlib.Core.List.{List}
use mathlib.Core.Path.{◌≡◌, sym, ap, ◌∙◌}
use Prim.Native.Nat.{ℕ, ◌≤◌, ◌<◌}
use native.Mathlib.Omega.{arith}
use lib.ListN.{length, get_or}
use borrow.Author.Tests.{leb-true}
use Rattle.numbers.specs.Limits.{most_frame, rate_fine, frame_fine}
use Rattle.numbers.specs.Lists.{every}
use Rattle.numbers.proofs.Everys.{every-at}
use Rattle.times.specs.Micros.{microseconds}
use Rattle.label_times.proofs.Frames.{rate_some}
use Rattle.label_lines.specs.Lines.{label_line}
use Rattle.labels.proofs.Written.{labels_none, labels_all, labels_longer, line_most}
use Rattle.labels.proofs.text_length.Goals as goal

pub loop-t-init : goal.loop-t-init
loop-t-init c = (omega arith, sym (ap length (labels_none c.args.rate c.args.frames.now)))

pub microseconds-requires : goal.microseconds-requires
microseconds-requires c = rate_some _ c.requires.rate_value

-- the line of a frame of the list
line_few : (rate : ℕ) → rate_fine rate ≡ true → (frames : List ℕ) → every frame_fine frames ≡ true → (i : ℕ) → i < length frames
    → length (label_line (microseconds (get_or frames i 0) rate)) ≤ 41
line_few rate good frames e i h =
    let top = leb-true (get_or frames i 0) most_frame (every-at frame_fine frames i 0 e h) in
    line_most rate good (get_or frames i 0) (omega (arith, top))

pub overflow_add-total : goal.overflow_add-total
overflow_add-total c =
    let long = c.line_length-total.ensures ∙ ap (λ (u : ℕ). length (label_line u)) c.microseconds.ensures in
    let few = line_few c.args.rate c.requires.rate_value c.args.frames.now c.requires.frames_value c.loop-t.t-index (omega arith) in
    omega (arith, long, few, c.requires.frames_len_bound, c.loop-t.invariant.0)

pub loop-t-preserved : goal.loop-t-preserved
loop-t-preserved c =
    let frames = c.args.frames.now in
    let i = c.loop-t.t-index in
    let long = c.line_length-total.ensures ∙ ap (λ (u : ℕ). length (label_line u)) c.microseconds.ensures in
    let few = line_few c.args.rate c.requires.rate_value frames c.requires.frames_value i (omega arith) in
    let longer = labels_longer c.args.rate frames i (omega arith) in
    (omega (arith, long, few, c.loop-t.invariant.0), omega (arith, long, longer, c.loop-t.invariant.1))

pub returns : goal.returns
returns c =
    let frames = c.args.frames.now in
    c.loop-t.invariant.1 ∙ ap length (labels_all c.args.rate frames c.loop-t.t-index (omega arith))
