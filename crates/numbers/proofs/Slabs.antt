-- What a slab in bounds has. Assumes nothing.
use mathlib.Core.Path.{◌≡◌}
use mathlib.Core.Bool.{true, ◌&&◌}
use Prim.Native.Nat.{◌≤◌}
use lib.Dec.{leb}
use borrow.Author.Tests.{leb-true}
use Rattle.numbers.specs.Limits.{most_rows, most_bins, slab_fine}
use Rattle.numbers.specs.declared.Slab.{Slab}
use Rattle.numbers.proofs.Tests.{and_left, and_right}

-- what number 1 leaves of a slab
pub record SlabFits (slab : Slab) : Type 0 where
  pub rows_fit : slab.rows ≤ most_rows
  pub some-bins : 1 ≤ slab.bins
  pub bins_fit : slab.bins ≤ most_bins

pub slab_fits : (slab : Slab) → slab_fine slab ≡ true → SlabFits slab
unfolding slab_fine
slab_fits slab e =
    let rows = leb slab.rows most_rows in
    let some = leb 1 slab.bins in
    let few = leb slab.bins most_bins in
    let b = and_right rows (some && few) e in
    record {
      rows_fit = leb-true _ _ (and_left rows (some && few) e);
      some-bins = leb-true _ _ (and_left some few b);
      bins_fit = leb-true _ _ (and_right some few b);
    }
