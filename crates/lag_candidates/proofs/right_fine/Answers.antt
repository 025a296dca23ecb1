-- `lag_candidates::right_fine` meets its contract, by the test that it makes. Assumes nothing.
use mathlib.Core.Path.{sym}
use borrow.Author.Tests.{eq-eqb, ne_eqb}
use Rattle.numbers.proofs.Tests.{pick_true, pick-false}
use Rattle.lag_candidates.specs.Candidates.{right_fine}
use Rattle.lag_candidates.proofs.right_fine.Goals as goal

pub returns-then-i-weight : goal.returns-then-i-weight
unfolding right_fine
returns-then-i-weight c = sym (pick_true _ _ _ (eq-eqb _ _ c.if-i-weight.true))

pub returns : goal.returns
unfolding right_fine
returns c = sym (pick-false _ _ _ (ne_eqb _ _ c.if-i-weight.false))
