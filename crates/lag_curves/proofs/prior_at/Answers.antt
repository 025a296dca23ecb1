-- `lag_curves::prior_at` meets its contract: each step is the definition's. Assumes nothing.
use mathlib.Core.Path.{ap, ◌∙◌}
use Rattle.lag_curves.specs.Curves.{prior_of, prior_at}
use Rattle.lag_curves.proofs.prior_at.Goals as goal

pub returns : goal.returns
unfolding prior_at
returns c = c.prior_of.ensures ∙ ap prior_of c.bpm_at.ensures
