-- `lags::low_bpm` meets its contract: the swap by the same test, and then the larger of it and 1. Assumes nothing.
use mathlib.Core.Path.{sym, ap, ◌∙◌}
use Rattle.numbers.proofs.Tests.{pick_true, pick-false}
use Rattle.numbers.specs.Rounded.{one}
use Rattle.lags.specs.Lags.{no_less, low_bpm}
use Rattle.lags.proofs.low_bpm.Goals as goal

pub returns-then-opts : goal.returns-then-opts
unfolding low_bpm
returns-then-opts c = c.no_less.ensures ∙ ap (no_less one) (sym (pick_true _ _ _ c.if-opts.true))

pub returns : goal.returns
unfolding low_bpm
returns c = c.no_less-2.ensures ∙ ap (no_less one) (sym (pick-false _ _ _ c.if-opts.false))
