-- `report_npy::read_values` meets its contract. The invariant: the row is the lent one with slots 0 up to i written by the rule. Assumes nothing.
use mathlib.Core.Path.{◌≡◌}
use Rattle.numbers.specs.Lists.{filled}
use Rattle.report_npy.specs.Values.{single_at}
use Rattle.report_npy.proofs.read_values.Given as goal

abbrev pub invariant-loop-i : goal.invariant-loop-i
invariant-loop-i l = l.row ≡ filled (single_at l.bytes) l.initial.row 0 l.i
