-- `labels::frames_refusal` meets its contract: the rate, and then the frames. Assumes nothing.
use mathlib.Core.Path.{sym, ◌∙◌}
use Rattle.texts.proofs.Texts.{fails, holds}
use Rattle.labels.proofs.Calls.{frames_rate, frames_grid}
use mathlib.Core.Path.{ap}
use mathlib.Core.Bool.{not}
use Rattle.labels.proofs.frames_refusal.Goals as goal

pub returns-then-not-rate_fine : goal.returns-then-not-rate_fine
returns-then-not-rate_fine c =
    sym (frames_rate c.args.frames.now c.args.rate (fails _ _ c.rate_fine.ensures (ap not c.if-not-rate_fine.true)))

pub returns : goal.returns
returns c =
    c.grid_refusal.ensures
    ∙ sym (frames_grid c.args.frames.now c.args.rate (holds _ _ c.rate_fine.ensures (ap not c.if-not-rate_fine.false)))
