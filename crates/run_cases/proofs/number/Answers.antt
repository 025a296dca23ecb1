-- `run_cases::number` meets its contract: the digits behind a minus sign, or from the text's first byte on. Assumes nothing.
use mathlib.Core.Path.{sym, ◌∙◌}
use Rattle.run_cases.specs.Texts.{case_number}
use Rattle.run_cases.proofs.number.Goals as goal

pub returns-then-stands : goal.returns-then-stands
unfolding case_number
returns-then-stands c = rw (sym c.stands.ensures ∙ c.if-stands.true) c.number_at.ensures

pub returns : goal.returns
unfolding case_number
returns c = rw (sym c.stands.ensures ∙ c.if-stands.false) c.number_at-2.ensures
