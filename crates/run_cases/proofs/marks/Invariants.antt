-- `run_cases::marks` meets its contract. The invariant: the marks found and those that are left are the text's. Assumes nothing.
use mathlib.Core.Path.{◌≡◌}
use Prim.Native.Nat.{◌≤◌, ◌+◌}
use lib.ListN.{drop}
use Rattle.run_cases.specs.Texts.{marks_of}
use Rattle.run_cases.proofs.marks.Given as goal

abbrev pub invariant-loop-byte : goal.invariant-loop-byte
invariant-loop-byte l = (l.n ≤ l.byte-index) × (l.n + marks_of l.mark (drop l.byte-index l.text) ≡ marks_of l.mark l.text)
