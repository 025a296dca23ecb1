-- `frames::row_of` meets its contract: where a row is whole it ends within the slab, by `whole_row`; else the part is the empty one at the end.
-- Assumes nothing.
use native.Mathlib.Omega.{arith}
use lib.ListN.{length}
use Rattle.frames.proofs.Laws.{whole_row, is-whole, no_bins, past-rows, whole-start, whole-holds, past-start, past-holds, same_place}
use Rattle.frames.proofs.row_of.Goals as goal

pub returns-then-bins-eq0 : goal.returns-then-bins-eq0
returns-then-bins-eq0 c =
    let a = c.args in
    let w = no_bins (length a.slab.now) a.bins a.t c.if-bins-eq0.true in
    record {
      place = same_place a.slab.ref_ptr.0 a.slab.ref_ptr.1 _ _ (past-start a.slab.now a.bins a.t w);
      holds = past-holds
          a.slab.now a.bins a.t w;
    }

pub overflow_mul-a : goal.overflow_mul-a
overflow_mul-a c = let a = c.args in omega (arith, whole_row (length a.slab.now) a.bins a.t (omega arith) c.if-t-n.true)

pub overflow_add-e : goal.overflow_add-e
overflow_add-e c = let a = c.args in omega (arith, whole_row (length a.slab.now) a.bins a.t (omega arith) c.if-t-n.true)

pub offset_bounds-slab-a : goal.offset_bounds-slab-a
offset_bounds-slab-a c = let a = c.args in omega (arith, whole_row (length a.slab.now) a.bins a.t (omega arith) c.if-t-n.true)

pub slice_bounds-result-end-then-t-n : goal.slice_bounds-result-end-then-t-n
slice_bounds-result-end-then-t-n c = let a = c.args in omega (arith, whole_row (length a.slab.now) a.bins a.t (omega arith) c.if-t-n.true)

pub returns-then-t-n : goal.returns-then-t-n
returns-then-t-n c =
    let a = c.args in
    let w = is-whole (length a.slab.now) a.bins a.t (omega arith) c.if-t-n.true in
    record {
      place = same_place a.slab.ref_ptr.0 a.slab.ref_ptr.1 _ _ (whole-start a.slab.now a.bins a.t w);
      holds = whole-holds
          a.slab.now a.bins a.t w;
    }

pub returns : goal.returns
returns c =
    let a = c.args in
    let w = past-rows (length a.slab.now) a.bins a.t c.if-t-n.false in
    record {
      place = same_place a.slab.ref_ptr.0 a.slab.ref_ptr.1 _ _ (past-start a.slab.now a.bins a.t w);
      holds = past-holds
          a.slab.now a.bins a.t w;
    }
