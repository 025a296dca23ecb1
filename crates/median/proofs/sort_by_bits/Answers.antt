-- `median::sort_by_bits` meets its contract: arranged from the second entry on, the list is in order, and one order of the same entries is the
-- sorted list. Assumes nothing.
use Rattle.median.proofs.Ranks.{ordered_is_sort}
use Rattle.median.proofs.Heaps.{done_ordered}
use Rattle.median.proofs.sort_by_bits.Goals as goal

pub returns : goal.returns
returns c =
    let r = c.arrange.ensures in
    ordered_is_sort _ _ (λ k. c.slice_known-1.given k) (λ k. c.slice_known-2-1.given k) r.same (done_ordered r.done)
