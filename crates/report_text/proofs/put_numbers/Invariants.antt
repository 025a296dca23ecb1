-- `report_text::put_numbers` meets its contract. The invariant: the numbers before the index are written, in at most eleven bytes each. Assumes nothing.
use Prim.Native.Nat.{◌*◌}
use lib.ListN.{take}
use Rattle.report_text.specs.Text.{PutWithin, numbers_text}
use Rattle.report_text.proofs.put_numbers.Given as goal

abbrev pub invariant-loop-n : goal.invariant-loop-n
invariant-loop-n l = PutWithin l.initial.out l.at (numbers_text (take l.n-index l.entries)) (11 * l.n-index) l.end l.out
