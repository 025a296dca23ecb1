-- `run_cases::differ` meets its contract: each answer is what the definition picks by the same tests. Assumes nothing.
use mathlib.Core.Path.{◌≡◌, sym, ◌∙◌}
use borrow.Author.Rules.{rules}
use lib.Ieee.{binary64, to_bits}
use Rattle.run_cases.proofs.Curves.{differs-not, differs-before, differs-behind, differs-inside}
use Rattle.run_cases.proofs.differ.Goals.{Else-bits_of}
use Rattle.run_cases.proofs.differ.Goals as goal

-- the bits differ
unlike : (c : Else-bits_of) → to_bits binary64 c.args.x ≡ to_bits binary64 c.args.y → ⊥
unlike c e =
    c.if-bits_of.false (c.bits_of.ensures ∙ e ∙ sym c.bits_of-2.ensures)

pub returns-then-bits_of : goal.returns-then-bits_of
returns-then-bits_of c = (differs-not _ _ _ _ _ (sym c.bits_of.ensures ∙ c.if-bits_of.true ∙ c.bits_of-2.ensures), search rules)

pub returns-then-i-first : goal.returns-then-i-first
returns-then-i-first c = (differs-before _ _ _ _ _ (unlike (goal.at.returns-then-i-first c).Else-bits_of) c.if-i-first.true, search rules)

pub returns-then-past-i : goal.returns-then-past-i
returns-then-past-i c = (differs-behind _ _ _ _ _ (unlike (goal.at.returns-then-past-i c).Else-bits_of) c.if-i-first.false c.if-past-i.true, search rules)

pub returns : goal.returns
returns c = (differs-inside _ _ _ _ _ (unlike (goal.at.returns c).Else-bits_of) c.if-i-first.false c.if-past-i.false, search rules)
