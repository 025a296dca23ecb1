-- `feature_parts::value_at` meets its contract: each return is a case of the definition. Assumes nothing.
use mathlib.Core.Path.{sym, ap, ◌∙◌}
use borrow.Author.Tests.{lt-ltb, le-ltb}
use Rattle.numbers.proofs.Tests.{pick_true, pick-false}
use Rattle.feature_parts.specs.Parts.{part_of, value_from}
use Rattle.feature_parts.proofs.value_at.Goals as goal

pub returns-then-j-lt12 : goal.returns-then-j-lt12
unfolding value_from
returns-then-j-lt12 c =
    c.part_of.ensures
    ∙ ap (part_of _) c.requires.3
    ∙ sym (pick_true _ _ _ (lt-ltb c.args.j 12 c.if-j-lt12.true))

pub returns-then-j-lt15 : goal.returns-then-j-lt15
unfolding value_from
returns-then-j-lt15 c =
    c.part_of-then-j-lt15.ensures
    ∙ ap (part_of _) c.requires.4
    ∙ sym (pick-false _ _ _ (le-ltb c.args.j 12 c.if-j-lt12.false) ∙ pick_true _ _ _ (lt-ltb c.args.j 15
    c.if-j-lt15.true))

pub returns : goal.returns
unfolding value_from
returns c =
    sym (pick-false _ _ _ (le-ltb c.args.j 12 c.if-j-lt12.false) ∙ pick-false _ _ _ (le-ltb c.args.j 15 c.if-j-lt15.false))
