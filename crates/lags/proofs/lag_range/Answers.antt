-- `lags::lag_range` meets its contract: outside the bounds number 1, and else both lags, as `lags_in` answers them. Assumes nothing.
use mathlib.Core.Path.{sym, ap, ◌∙◌}
use mathlib.Core.Bool.{not}
use borrow.Author.Tests.{not-true, not-false}
use Rattle.std.specs.Prelude.{Ok}
use Rattle.numbers.proofs.Tests.{pick_true, pick-false}
use Rattle.lags.specs.declared.LagRange.{LagRange}
use Rattle.lags.specs.Lags.{lags_said, lag_range}
use Rattle.lags.proofs.lag_range.Goals as goal

pub returns-then-not-bounds_fine : goal.returns-then-not-bounds_fine
unfolding lag_range
returns-then-not-bounds_fine c = sym (pick-false _ _ _ (sym c.bounds_fine.ensures ∙ not-true _ (ap not c.if-not-bounds_fine.true)))

pub lags_in-requires : goal.lags_in-requires
lags_in-requires c = sym c.bounds_fine.ensures ∙ not-false _ (ap not c.if-not-bounds_fine.false)

pub returns : goal.returns
unfolding lag_range
returns c =
    ap (λ (r : LagRange). lags_said (Ok r)) c.lags_in.ensures
    ∙ sym (pick_true _ _ _ (sym c.bounds_fine.ensures ∙ not-false _ (ap not c.if-not-bounds_fine.false)))
