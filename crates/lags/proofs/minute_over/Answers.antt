-- `lags::minute_over` meets its contract: it is the definition. Assumes nothing.
use mathlib.Core.Path.{refl}
use Rattle.lags.specs.Lags.{minute_over}
use Rattle.lags.proofs.minute_over.Goals as goal

pub returns : goal.returns
unfolding minute_over
returns c = refl
