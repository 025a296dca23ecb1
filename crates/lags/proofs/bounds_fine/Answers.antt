-- `lags::bounds_fine` meets its contract: the tests of the rate and of the options are all that number 1 looks at. Both returns are found by search,
-- so that a further test is refused because it isn't what the contract says. Assumes nothing.
use mathlib.Core.Path.{◌≡◌, sym, ◌∙◌}
use mathlib.Core.Bool.{Bool, true, false, ◌&&◌}
use borrow.Author.Rules.{rules}
use Rattle.numbers.proofs.Tests.{and-held, and_failed}
use Rattle.lags.specs.Lags.{bounds_fine}
use Rattle.lags.proofs.bounds_fine.Goals as goal

-- `&&` answers its right side where its left holds, and else its left
right_side : (a b l r : Bool) → l ≡ a → l ≡ true → r ≡ b → r ≡ (a && b)
right_side a b l r e h f = f ∙ and-held a b (sym e ∙ h)

left-side : (a b l : Bool) → l ≡ a → l ≡ false → l ≡ (a && b)
left-side a b l e h = e ∙ and_failed a b (sym e ∙ h)

pub returns-then-rate_fine : goal.returns-then-rate_fine
unfolding bounds_fine
returns-then-rate_fine c = search (rules, right_side)

pub returns-else-rate_fine : goal.returns-else-rate_fine
unfolding bounds_fine
returns-else-rate_fine c = search (rules, left-side)
