-- `run_cases::start` meets its contract. The invariant: what is left has as part `left` what the text has as part k. Assumes nothing.
use mathlib.Core.Path.{◌≡◌}
use lib.ListN.{drop}
use Rattle.run_cases.specs.Texts.{parts_from}
use Rattle.run_cases.proofs.start.Given as goal

abbrev pub invariant-loop-i : goal.invariant-loop-i
invariant-loop-i l = parts_from l.mark (drop l.i l.text) l.left ≡ parts_from l.mark l.text l.k
