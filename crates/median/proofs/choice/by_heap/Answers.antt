-- `median::choice::by_heap` meets its contract: arranged from h on, the list is split there, and a list with the same entries that is split at h
-- has the sorted list's entry there. Assumes nothing.
use native.Mathlib.Omega.{arith}
use Rattle.median.proofs.Ranks.{split_is_sort}
use Rattle.median.proofs.Heaps.{done_split}
use Rattle.median.proofs.choice.by_heap.Goals as goal

pub returns : goal.returns
returns c =
    let r = c.arrange.ensures in
    split_is_sort c.args.a.now _ c.args.h (λ k. c.slice_known-1.given k)
    (λ k. c.slice_known-3-1.given k) r.same c.requires
    (done_split c.args.h (omega (arith, r.same.len, c.requires)) r.done)
