-- `lags::lag_of` meets its contract: each step is the definition's. Assumes nothing.
use mathlib.Core.Path.{ap, ◌∙◌}
use Rattle.floats.specs.Wholes.{round_of}
use Rattle.lags.proofs.lag_of.Goals as goal

pub returns : goal.returns
returns c = c.round_of.ensures ∙ ap round_of c.minute_over.ensures
