-- `report_feed::take_data` meets its contract: a byte behind the last row, a byte within a row, or the last of a row, which is then taken.
-- Assumes nothing.
use mathlib.Core.Path.{refl, sym, ◌∙◌}
use native.Mathlib.Omega.{arith}
use Prim.Native.Nat.{◌*◌, ◌<◌}
use lib.ListN.{length-set}
use lib.Seq.{length-take-le}
use Rattle.report_feed.proofs.Feeds.{rows-within, have_fits, row_fits, width_fits, pair_fits, step_behind, step_part, step_row}
use Rattle.report_feed.proofs.take_data.Goals as goal

pub returns-then-t-rows : goal.returns-then-t-rows
returns-then-t-rows c = step_behind c.requires (omega (arith, (rows-within c.requires).row_is, c.if-t-rows.true))

pub bounds-held-have : goal.bounds-held-have
bounds-held-have c = have_fits c.requires

pub overflow_add-come : goal.overflow_add-come
overflow_add-come c = omega (arith, have_fits c.requires)

pub overflow_mul-width : goal.overflow_mul-width
overflow_mul-width c = omega (arith, width_fits c.requires)

pub returns-then-come-width : goal.returns-then-come-width
returns-then-come-width c =
    step_part c.requires (omega (arith, (rows-within c.requires).row_is, c.if-t-rows.false)) (omega (arith, c.if-come-width.true))

pub overflow_mul-two : goal.overflow_mul-two
overflow_mul-two c = omega (arith, pair_fits c.requires)

pub slice_bounds-take_row-end : goal.slice_bounds-take_row-end
slice_bounds-take_row-end c = simp length-set (omega (arith, width_fits c.requires))

pub slice_bounds-take_row-end-2 : goal.slice_bounds-take_row-end-2
slice_bounds-take_row-end-2 c = sym (length-take-le (c.args.bins * 4) _ (simp length-set (width_fits c.requires)))

pub slice_bounds-take_row-end-3 : goal.slice_bounds-take_row-end-3
slice_bounds-take_row-end-3 c = omega (arith, pair_fits c.requires)

pub slice_bounds-take_row-end-4 : goal.slice_bounds-take_row-end-4
slice_bounds-take_row-end-4 c = sym (length-take-le (2 * c.args.bins) _ (pair_fits c.requires))

pub take_row-still-requires : goal.take_row-still-requires
take_row-still-requires c =
    let fewer : c.args.t < c.args.rows = omega (arith, (rows-within c.requires).row_is, c.if-t-rows.false) in
    let bins = c.args.bins in record {
      bytes_len = (
        length-take-le (bins * 4) _ (simp length-set (width_fits c.requires)),
        length-take-le (2 * bins) _ (pair_fits c.requires),
        row_fits c.requires fewer,
      );
      kept_value = (rows-within c.requires).kept_fine;
    }

pub overflow_add-next : goal.overflow_add-next
overflow_add-next c = omega
    (arith, (rows-within c.requires).row_is, c.if-t-rows.false)

pub returns : goal.returns
returns c =
    let fewer : c.args.t < c.args.rows = omega (
      arith,
      (rows-within c.requires).row_is,
      c.if-t-rows.false,
    ) in
    let bins = c.args.bins in
    let taken = c.take_row-still in
    step_row c.requires fewer (omega (
      arith,
      (rows-within c.requires).have_is,
      c.if-come-width.false,
    )) refl refl taken.ensures refl
    (taken.auto.kept ∙ length-take-le (2 * bins) _ (pair_fits c.requires)) (omega arith) (omega arith)
