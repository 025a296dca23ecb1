-- `feature_bins::fill_pasts` meets its contract. The invariant: from bin k on the table tells where each stretch ends. Assumes nothing.
use Prim.Native.Nat.{◌<◌}
use Rattle.feature_bins.specs.Bins.{Pasts}
use Rattle.feature_bins.proofs.fill_pasts.Given as goal

abbrev pub invariant-loop-k : goal.invariant-loop-k
invariant-loop-k l = (l.k < 2049) × Pasts l.codes l.k l.pasts
