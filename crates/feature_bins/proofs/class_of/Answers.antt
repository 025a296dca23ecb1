-- `feature_bins::class_of` meets its contract: below 0 the remainder of the mirrored pitch is taken from 12. Assumes nothing.
use native.Mathlib.Omega.{arith}
use Rattle.feature_bins.specs.Bins.{class_of}
use Rattle.feature_bins.proofs.class_of.Goals as goal

pub returns-then-pitch : goal.returns-then-pitch
unfolding class_of
returns-then-pitch c = (rw (c.if-pitch.true, c.round_of-below.ensures), omega arith)

pub returns : goal.returns
unfolding class_of
returns c = (rw (c.if-pitch.false, c.round_of.ensures), omega arith)
