-- `run_cases::spell` meets its contract. The invariant: the curve has the values of the text's first i bytes. Assumes nothing.
use mathlib.Core.Path.{◌≡◌}
use lib.ListN.{take}
use Rattle.run_cases.specs.Curves.{spelled_in}
use Rattle.run_cases.proofs.spell.Given as goal

abbrev pub invariant-loop-i : goal.invariant-loop-i
invariant-loop-i l = l.curve ≡ spelled_in (take l.i l.text) l.initial.curve
