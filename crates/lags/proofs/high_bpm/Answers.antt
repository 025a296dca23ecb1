-- `lags::high_bpm` meets its contract: the swap by the same test, and then the larger of it and 1 above the lower bound. Assumes nothing.
use mathlib.Core.Path.{◌∙◌}
use Rattle.lags.specs.Lags.{high_bpm}
use Rattle.lags.proofs.high_bpm.Goals as goal

pub returns-then-opts : goal.returns-then-opts
unfolding high_bpm
returns-then-opts c = c.no_less.ensures ∙ rw (c.low_bpm-least.ensures, c.if-opts.true)

pub returns : goal.returns
unfolding high_bpm
returns c = c.no_less-2.ensures ∙ rw (c.low_bpm-least.ensures, c.if-opts.false)
