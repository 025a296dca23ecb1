-- `feature_bins::band_of` meets its contract: its tests are the definition's. Assumes nothing.
use native.Mathlib.Omega.{arith}
use Rattle.feature_bins.specs.Bins.{band_of}
use Rattle.feature_bins.proofs.band_of.Goals as goal

pub returns-then-hz : goal.returns-then-hz
unfolding band_of
returns-then-hz c = (rw c.if-hz.true, omega arith)

pub returns-then-hz-2 : goal.returns-then-hz-2
unfolding band_of
returns-then-hz-2 c = (rw (c.if-hz.false, c.if-hz-2.true), omega arith)

pub returns : goal.returns
unfolding band_of
returns c = (rw (c.if-hz.false, c.if-hz-2.false), omega arith)
