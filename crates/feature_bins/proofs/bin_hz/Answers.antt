-- `feature_bins::bin_hz` meets its contract: one product and one division. Assumes nothing.
use Rattle.feature_bins.specs.Bins.{hz_of}
use borrow.Author.Rules.{rules}
use Rattle.feature_bins.proofs.bin_hz.Goals as goal

pub returns : goal.returns
unfolding hz_of
returns c = search rules
