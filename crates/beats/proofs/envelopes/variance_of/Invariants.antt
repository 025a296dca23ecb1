-- `beats::envelopes::variance_of` meets its contract. The invariant: the sum of squares so far, and then those of what is left, is the whole sum.
-- Assumes nothing.
use mathlib.Core.Path.{◌≡◌}
use mathlib.Core.List.{map}
use Prim.Native.Nat.{◌≤◌}
use lib.ListN.{length, drop}
use Rattle.numbers.specs.Rounded.{nought, sum_from}
use Rattle.beats.specs.Envelopes.{square_about}
use Rattle.beats.proofs.envelopes.variance_of.Given as goal

abbrev pub invariant-loop-i : goal.invariant-loop-i
invariant-loop-i l =
    (l.i ≤ length l.xs) × (sum_from l.sum (map (square_about l.mean) (drop l.i l.xs)) ≡ sum_from nought (map (square_about l.mean) l.xs))
