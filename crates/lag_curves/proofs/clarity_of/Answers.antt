-- `lag_curves::clarity_of` meets its contract: each step is the definition's. Assumes nothing.
use mathlib.Core.Path.{◌∙◌}
use Rattle.lag_curves.specs.Curves.{clarity_of}
use Rattle.lag_curves.proofs.clarity_of.Goals as goal

pub returns : goal.returns
unfolding clarity_of
returns c = c.unit_of.ensures ∙ rw (c.float_of-2.ensures, c.float_of.ensures)
