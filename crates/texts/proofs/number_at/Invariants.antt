-- `texts::number_at` meets its contract. The invariant: v is held, and the number that the rest of the text starts with is, held, the number of the digits
-- that are left behind those of v. `held_more` closes the step: a number held early is held as one held late. Assumes nothing.
use mathlib.Core.Path.{◌≡◌}
use Prim.Native.Nat.{◌≤◌, min}
use lib.ListN.{drop}
use Rattle.texts.specs.Decimals.{leading, number_from}
use Rattle.texts.proofs.number_at.Given as goal

abbrev pub invariant-loop-x : goal.invariant-loop-x
invariant-loop-x l = record {
  held : l.v ≤ l.most;
  number : min (number_from 0 (leading l.x-items)) l.most ≡ min (number_from l.v (leading (drop l.x-index l.x-items))) l.most;
}
