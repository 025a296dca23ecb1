-- `feature_bins::fill_codes` meets its contract. The invariant: the numbers of the bins before k are written. Assumes nothing.
use mathlib.Core.Path.{◌≡◌}
use Prim.Native.Nat.{◌≤◌}
use lib.ListN.{length}
use Rattle.numbers.specs.Lists.{filled}
use Rattle.feature_bins.specs.Bins.{code_at}
use Rattle.feature_bins.proofs.fill_codes.Given as goal

abbrev pub invariant-loop-k : goal.invariant-loop-k
invariant-loop-k l = (l.k ≤ 2049) × (length l.codes ≡ 2049) × (l.codes ≡ filled (code_at l.rate) l.initial.codes 0 l.k)
