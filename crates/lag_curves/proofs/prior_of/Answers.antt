-- `lag_curves::prior_of` meets its contract: each step is the definition's. Assumes nothing.
use mathlib.Core.Path.{◌∙◌}
use Rattle.lag_curves.specs.Curves.{prior_of}
use Rattle.lag_curves.proofs.prior_of.Goals as goal

pub returns : goal.returns
unfolding prior_of
returns c = c.exp.ensures ∙ rw c.log2-z.ensures
