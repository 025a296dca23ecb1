-- `lags::pairs::distance_of` meets its contract: it is the choice by the same test. Assumes nothing.
use mathlib.Core.Path.{sym}
use Rattle.numbers.proofs.Tests.{pick_true, pick-false}
use Rattle.lags.proofs.pairs.distance_of.Goals as goal

pub returns-then-x-y : goal.returns-then-x-y
returns-then-x-y c = sym (pick_true _ _ _ c.if-x-y.true)

pub returns-else-x-y : goal.returns-else-x-y
returns-else-x-y c = sym (pick-false _ _ _ c.if-x-y.false)
