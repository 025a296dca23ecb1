-- `patch_features::mend_before` meets its contract. The invariant: the slots up to k are mended, and the list is as long as it was. A slot is mended
-- from what the loop finds there, which is what was lent (`mended-more`). Assumes nothing.
use mathlib.Core.Path.{◌≡◌}
use Prim.Native.Nat.{◌≤◌}
use lib.ListN.{length}
use Rattle.numbers.specs.Lists.{filled}
use Rattle.patch_features.specs.Features.{mended_at}
use Rattle.patch_features.proofs.mend_before.Given as goal

abbrev pub invariant-loop-k : goal.invariant-loop-k
invariant-loop-k l =
    (l.from ≤ l.k) × (l.k ≤ l.to) × (length l.similarity ≡ length l.initial.similarity)
    × (l.similarity ≡ filled (mended_at l.features l.rows l.start l.past l.initial.similarity) l.initial.similarity l.from l.k)
