-- `lags::no_less` meets its contract: it is the choice by the same test. Assumes nothing.
use mathlib.Core.Path.{sym}
use Rattle.numbers.proofs.Tests.{pick_true, pick-false}
use Rattle.lags.specs.Lags.{no_less}
use Rattle.lags.proofs.no_less.Goals as goal

pub returns-then-x-least : goal.returns-then-x-least
unfolding no_less
returns-then-x-least c = sym (pick_true _ _ _ c.if-x-least.true)

pub returns-else-x-least : goal.returns-else-x-least
unfolding no_less
returns-else-x-least c = sym (pick-false _ _ _ c.if-x-least.false)
