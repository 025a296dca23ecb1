-- `roots::nearest_whole` meets its contract. A guess that passes the test is nearest by what the test promises, and half of the digits' root, rounded,
-- is nearest too (`digits_near`). Nothing is asked of the guess. Assumes nothing.
use mathlib.Core.Path.{sym, ◌∙◌}
use Rattle.roots.proofs.Nearest.{digits_near}
use Rattle.roots.proofs.nearest_whole.Goals as goal

pub returns-then-is_nearest : goal.returns-then-is_nearest
returns-then-is_nearest c = sym c.is_nearest.ensures ∙ c.if-is_nearest.true

pub returns : goal.returns
returns c = digits_near _ _ c.requires.0 c.root_by_digits.ensures.0 c.root_by_digits.ensures.1
