-- `median::distances` meets its contract. The invariant: the slots before i hold the distances of the source's entries, the others what they held.
-- Assumes nothing.
use Prim.Native.Nat.{◌≤◌}
use mathlib.Core.Path.{◌≡◌}
use lib.ListN.{length, get_or}
use lib.Ieee.{nan}
use Rattle.numbers.specs.Lists.{filled}
use Rattle.median.specs.Median.{distance}
use Rattle.median.proofs.distances.Given as goal

abbrev pub invariant-loop-i : goal.invariant-loop-i
invariant-loop-i l = (l.i ≤ length l.src) × (l.dst ≡ filled (λ k. distance l.median (get_or l.src k nan)) l.initial.dst 0 l.i) × (length l.dst ≡ length l.initial.dst)
