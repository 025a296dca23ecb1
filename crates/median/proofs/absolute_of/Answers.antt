-- `median::absolute_of` meets its contract: each of its three branches is one law of the absolute value. That a zero is written in one way
-- comes from the argument's format. Assumes nothing.
use mathlib.Core.Path.{subst, sym}
use lib.Dec.{T}
use Rattle.median.proofs.Absolutes.{of_negative, of_zero, of_positive}
use Rattle.median.proofs.absolute_of.Goals as goal

pub returns-then-x : goal.returns-then-x
returns-then-x c = of_negative _ c.if-x.true

pub returns-then-x-2 : goal.returns-then-x-2
returns-then-x-2 c = of_zero _ (subst T (sym c.well_formed.0.1) tt) c.if-x-2.true

pub returns : goal.returns
returns c = of_positive _ c.if-x.false c.if-x-2.false
