-- `report_lines::counts_of` meets its contract, case by case. Assumes nothing.
use native.Mathlib.Omega.{arith}
use Rattle.report_lines.proofs.counts_of.Goals as goal

pub overflow_cast-result : goal.overflow_cast-result
overflow_cast-result c = let h = rw c.in-Share.is at c.requires.0 in omega (arith, h)

pub overflow_cast-result-in-Share : goal.overflow_cast-result-in-Share
overflow_cast-result-in-Share c = let h = rw c.in-Share.is at c.requires.1 in omega (arith, h)

pub returns-in-None : goal.returns-in-None
returns-in-None c = rw c.in-None.is

pub returns-in-Share : goal.returns-in-Share
returns-in-Share c = rw c.in-Share.is
