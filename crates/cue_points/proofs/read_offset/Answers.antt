-- `cue_points::read_offset` meets its contract: a listed frame's offset is read as that frame. Assumes nothing.
use mathlib.Core.Path.{◌≡◌, sym, ◌∙◌}
use mathlib.Core.Bool.{true}
use lib.Dec.{leb}
use borrow.Author.Tests.{not-true, not-false, leb-true}
use Rattle.numbers.proofs.Tests.{and_left}
use Rattle.cue_points.specs.Chunks.{offset_fine}
use Rattle.cue_points.proofs.Heads.{offset_counts, offset_misses}
use mathlib.Core.Path.{ap}
use mathlib.Core.Bool.{not}
use Rattle.cue_points.proofs.read_offset.Goals.{Else-not-offset_fine}
use Rattle.cue_points.proofs.read_offset.Goals as goal

fine : (c : Else-not-offset_fine) → offset_fine c.args.offset ≡ true
fine c = sym c.offset_fine.ensures ∙ not-false _ (ap not c.if-not-offset_fine.false)

pub returns-then-not-offset_fine : goal.returns-then-not-offset_fine
returns-then-not-offset_fine c =
    c.read_none.ensures
    ∙ sym (offset_misses c.args.j c.args.offset (sym c.offset_fine.ensures ∙ not-true _ (ap not c.if-not-offset_fine.true)))

pub overflow_sub-offset : goal.overflow_sub-offset
overflow_sub-offset c = leb-true 512 c.args.offset (and_left (leb 512 c.args.offset) _ (fine (goal.at.overflow_sub-offset c).Else-not-offset_fine))

pub returns : goal.returns
returns c =
    c.read_frame.ensures ∙ sym (offset_counts c.args.j c.args.offset (fine (goal.at.returns c).Else-not-offset_fine))
