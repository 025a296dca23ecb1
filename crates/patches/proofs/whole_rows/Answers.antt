-- `patches::whole_rows` meets its contract: each return rewrites the chain of tests with those that led to it. Assumes nothing.
use mathlib.Core.Path.{◌∙◌}
use borrow.Author.Tests.{eq-eqb, ne_eqb}
use Rattle.numbers.proofs.Tests.{and-held}
use Rattle.patches.specs.Patches.{whole_rows}
use Rattle.patches.proofs.whole_rows.Goals as goal

pub returns-then-slots-rows : goal.returns-then-slots-rows
unfolding whole_rows
returns-then-slots-rows c = simp (ne_eqb _ _ c.if-slots-rows.true)

pub returns : goal.returns
unfolding whole_rows
returns c = c.new_rows.ensures ∙ and-held _ _ (eq-eqb _ _ c.if-slots-rows.false)
