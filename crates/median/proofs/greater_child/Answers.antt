-- `median::greater_child` meets its contract: of two children the test of their keys chooses, and one alone is the greater. Assumes nothing.
use borrow.Author.Tests.{ltb-false}
use mathlib.Core.Path.{◌∙◌, sym}
use native.Mathlib.Omega.{arith}
use Rattle.median.proofs.Heaps.{greater_right, greater_left}
use Rattle.median.proofs.greater_child.Goals as goal

pub returns-then-precedes : goal.returns-then-precedes
returns-then-precedes c = greater_right _ _ _ c.if-right-end.true (sym c.precedes.ensures ∙ c.if-precedes.true)

pub returns-else-precedes : goal.returns-else-precedes
returns-else-precedes c =
    greater_left _ _ _ c.requires.0 (λ h. ltb-false _ _ (sym c.precedes.ensures ∙ c.if-precedes.false))

pub returns-else-right-end : goal.returns-else-right-end
returns-else-right-end c = greater_left _ _ _ c.requires.0 (λ h. omega (arith, c.if-right-end.false))
