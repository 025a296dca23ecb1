-- `patch_features::mend_similarity` meets its contract: the two runs of slots, one behind the other, are the one that is promised (`mended-joined`).
-- Assumes nothing.
use native.Mathlib.Omega.{arith}
use Rattle.patch_features.proofs.Mended.{mended-joined}
use Rattle.patch_features.proofs.mend_similarity.Goals as goal

pub mend_before-requires : goal.mend_before-requires
mend_before-requires c =
    (c.requires.0, omega arith, omega arith, omega arith, omega arith)

pub fill_similarity_rows-requires : goal.fill_similarity_rows-requires
fill_similarity_rows-requires c = (c.requires.0, omega arith, omega arith, omega arith)

pub returns : goal.returns
returns c =
    mended-joined _ _ _ _ _ _ _ _ (omega arith) (omega arith) c.first_pair.ensures
    c.mend_before.ensures c.fill_similarity_rows.ensures
