-- `lags::bpm_at` meets its contract: each step is the definition's. Assumes nothing.
use mathlib.Core.Path.{ap, ◌∙◌}
use Rattle.lags.specs.Lags.{minute_over, bpm_at}
use Rattle.lags.proofs.bpm_at.Goals as goal

pub returns : goal.returns
unfolding bpm_at
returns c = c.minute_over.ensures ∙ ap (minute_over _) c.float_of.ensures
