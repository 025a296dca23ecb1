-- `feature_bins::past_at` meets its contract: the next bin's stretch begins one bin earlier where the numbers are one, and else a stretch of one bin. Assumes
-- nothing.
use native.Mathlib.Omega.{arith}
use Rattle.feature_bins.proofs.Tables.{longer_stretch, short_stretch}
use Rattle.feature_bins.proofs.past_at.Goals as goal

pub returns-then-codes-k : goal.returns-then-codes-k
returns-then-codes-k c = longer_stretch _ _ _ c.if-codes-k.true (c.requires.2.stretch _ (omega arith) (omega (arith, c.requires.0)))

pub returns : goal.returns
returns c = short_stretch _ _ (omega (arith, c.requires.0))
