use native.Mathlib.Omega.{arith}
use Prim.Native.Nat.{ℕ, ◌+◌}
use mathlib.Core.Path.{ap, ◌∙◌}
use lib.ListN.{length}
use Rattle.numbers.specs.Lists.{over}
use Rattle.texts.proofs.Puts.{put-none, put_then}
use Rattle.texts.proofs.Overs.{over-front}
use Rattle.label_times.proofs.Frames.{rate_some}
use Rattle.label_lines.specs.Lines.{label_line}
use Rattle.label_tracks.specs.Tracks.{label_bytes}
use Rattle.labels.proofs.Written.{labels_none, labels_more, labels_longer, labels_all, labels_part}
use Rattle.labels.proofs.put_lines.Goals as goal

pub loop-t-init : goal.loop-t-init
loop-t-init c = rw (labels_none c.args.rate c.args.frames.now) (put-none c.args.out.now 0 (omega arith))

pub microseconds-requires : goal.microseconds-requires
microseconds-requires c = rate_some _ c.requires.rate_value

pub put_line-at-requires : goal.put_line-at-requires
put_line-at-requires c =
    let frames = c.args.frames.now in
    let rate = c.args.rate in
    let i = c.loop-t.t-index in
    let more = labels_longer rate frames i (omega arith) in
    let u = ap (λ (k : ℕ). length (label_line k)) c.microseconds.ensures in
    omega (arith, more, u, labels_part rate frames (i + 1), c.requires.frames_in_bounds, c.loop-t.invariant.end_is)

pub loop-t-preserved : goal.loop-t-preserved
loop-t-preserved c =
    let line = rw c.microseconds.ensures at c.put_line-at.ensures in
    rw (labels_more c.args.rate c.args.frames.now c.loop-t.t-index (omega arith)) (put_then c.loop-t.invariant line)

pub returns : goal.returns
returns c =
    let frames = c.args.frames.now in
    let rate = c.args.rate in
    let out = c.args.out.now in
    c.loop-t.invariant.bytes_are ∙ ap (over out 0) (labels_all rate frames c.loop-t.t-index (omega arith))
    ∙ over-front out (label_bytes rate frames)
