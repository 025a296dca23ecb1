-- `report_npy::ends` meets its contract. The invariant: the text from `at` ends well exactly if it does from `place` on. Assumes nothing.
use mathlib.Core.Path.{◌≡◌}
use lib.ListN.{drop}
use Rattle.report_npy.specs.Header.{ended}
use Rattle.report_npy.proofs.ends.Given as goal

abbrev pub invariant-loop-place : goal.invariant-loop-place
invariant-loop-place l = ended (drop l.at l.text) ≡ ended (drop l.place l.text)
