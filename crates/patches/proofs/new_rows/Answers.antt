-- `patches::new_rows` meets its contract: each return rewrites the tests with those that led to it. Assumes nothing.
use borrow.Author.Tests.{ne_eqb}
use native.Mathlib.Omega.{arith}
use Rattle.patches.specs.Patches.{new_rows}
use Rattle.patches.proofs.Wholes.{fits_left}
use Rattle.patches.proofs.new_rows.Goals as goal

pub returns-then-added-width-ne0 : goal.returns-then-added-width-ne0
unfolding new_rows
returns-then-added-width-ne0 c = simp (ne_eqb _ _ c.if-added-width-ne0.true)

pub returns : goal.returns
returns c = let g = c.args in
    fits_left g.rows g.width g.start g.added (omega arith) c.if-added-width-ne0.false
