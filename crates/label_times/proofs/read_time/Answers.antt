-- `label_times::read_time` meets its contract: a listed frame's time is read as that frame. Assumes nothing.
use mathlib.Core.Path.{◌≡◌, sym, ap, ◌∙◌}
use mathlib.Core.Bool.{true}
use native.Mathlib.Omega.{arith}
use borrow.Author.Tests.{not-true, not-false}
use Rattle.lists.specs.Grids.{next_read}
use Rattle.label_times.specs.Frames.{time_fine}
use Rattle.label_times.proofs.Frames.{rate_some, rate_most, time_within, time_frame, time_counts, time_misses}
use mathlib.Core.Bool.{not}
use Rattle.label_times.proofs.read_time.Goals.{Else-not-time_fine}
use Rattle.label_times.proofs.read_time.Goals as goal

fine : (c : Else-not-time_fine) → time_fine c.args.rate c.args.u ≡ true
fine c = sym c.time_fine.ensures ∙ not-false _ (ap not c.if-not-time_fine.false)

pub returns-then-not-time_fine : goal.returns-then-not-time_fine
returns-then-not-time_fine c =
    c.read_none.ensures
    ∙ sym (time_misses c.args.rate c.args.j c.args.u (sym c.time_fine.ensures ∙ not-true _ (ap not c.if-not-time_fine.true)))

pub frame_for-requires : goal.frame_for-requires
frame_for-requires c =
    record { u_bound = time_within c.args.rate (rate_some _ c.requires) (rate_most _ c.requires) c.args.u (fine (goal.at.frame_for-requires c).Else-not-time_fine); rate_value = c.requires }

pub overflow_cast-frame_for : goal.overflow_cast-frame_for
overflow_cast-frame_for c =
    let top = time_frame c.args.rate (rate_some _ c.requires) (rate_most _ c.requires) c.args.u (fine (goal.at.overflow_cast-frame_for c).Else-not-time_fine) in
    omega (arith, top, c.frame_for.ensures)

pub read_frame-requires : goal.read_frame-requires
read_frame-requires c =
    let top = time_frame c.args.rate (rate_some _ c.requires) (rate_most _ c.requires) c.args.u (fine (goal.at.read_frame-requires c).Else-not-time_fine) in
    omega (arith, top, c.frame_for.ensures)

pub returns : goal.returns
returns c =
    c.read_frame.ensures ∙ ap (next_read c.args.j) c.frame_for.ensures
    ∙ sym (time_counts c.args.rate c.args.j c.args.u (fine (goal.at.returns c).Else-not-time_fine))
