-- `run_cases::column` meets its contract: the number of the part. Assumes nothing.
use mathlib.Core.Path.{ap, ◌∙◌}
use Rattle.run_cases.specs.Texts.{case_number, case_column}
use Rattle.run_cases.proofs.column.Goals as goal

pub returns : goal.returns
unfolding case_column
returns c = c.number.ensures ∙ ap case_number c.part.ensures
