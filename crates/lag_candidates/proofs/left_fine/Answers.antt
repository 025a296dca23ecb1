-- `lag_candidates::left_fine` meets its contract, by the test that it makes. Assumes nothing.
use mathlib.Core.Path.{sym}
use borrow.Author.Tests.{eq-eqb, ne_eqb}
use Rattle.numbers.proofs.Tests.{pick_true, pick-false}
use Rattle.lag_candidates.specs.Candidates.{left_fine}
use Rattle.lag_candidates.proofs.left_fine.Goals as goal

pub returns-then-i-eq0 : goal.returns-then-i-eq0
unfolding left_fine
returns-then-i-eq0 c = sym (pick_true _ _ _ (eq-eqb _ _ c.if-i-eq0.true))

pub returns : goal.returns
unfolding left_fine
returns c = sym (pick-false _ _ _ (ne_eqb _ _ c.if-i-eq0.false))
