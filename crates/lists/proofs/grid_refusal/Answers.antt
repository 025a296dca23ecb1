-- `lists::grid_refusal` meets its contract, test by test. Assumes nothing.
use Rattle.std.proofs.Common.{◌≡◌, true, sym, ◌∙◌}
use borrow.Author.Tests.{not-true, not-false}
use Rattle.numbers.specs.Limits.{frame_fine}
use Rattle.numbers.specs.Lists.{every}
use Rattle.lists.proofs.Grids.{grid-above, grid-order, grid-none}
use mathlib.Core.Path.{ap}
use mathlib.Core.Bool.{not}
use Rattle.lists.proofs.grid_refusal.Goals.{Else-not-all_at_most}
use Rattle.lists.proofs.grid_refusal.Goals as goal

listed : (c : Else-not-all_at_most) → every frame_fine c.args.frames.now ≡ true
listed c = sym c.all_at_most.ensures ∙ not-false _ (ap not c.if-not-all_at_most.false)

pub returns-then-not-all_at_most : goal.returns-then-not-all_at_most
returns-then-not-all_at_most c = sym (grid-above _ (sym c.all_at_most.ensures ∙ not-true _ (ap not c.if-not-all_at_most.true)))

pub returns-then-not-ascends : goal.returns-then-not-ascends
returns-then-not-ascends c = sym (grid-order _ (listed (goal.at.returns-then-not-ascends c).Else-not-all_at_most) (sym c.ascends.ensures ∙ not-true _ (ap not c.if-not-ascends.true)))

pub returns : goal.returns
returns c = sym (grid-none _ (listed (goal.at.returns c).Else-not-all_at_most) (sym c.ascends.ensures ∙ not-false _ (ap not c.if-not-ascends.false)))
