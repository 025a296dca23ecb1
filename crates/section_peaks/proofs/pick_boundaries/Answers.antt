-- `section_peaks::pick_boundaries` meets its contract: none is asked for, all that are kept are listed, or a cut takes some (`Choices`). Assumes nothing.
use mathlib.Core.Path.{◌≡◌, sym}
use native.Mathlib.Omega.{arith}
use lib.ListN.{length, take}
use Rattle.section_peaks.proofs.Choices.{count_most, lent_many, picked_none, picked-few, picked_cut}
use Rattle.section_peaks.proofs.pick_boundaries.Goals.{After-note_values-count}
use Rattle.section_peaks.proofs.pick_boundaries.Goals as goal

-- the part that is lent has as many slots as there are values
many : (c : After-note_values-count) → length (take c.note_values-count.result c.note_values-count.new.work) ≡ c.note_values-count.result
many c =
    lent_many _ c.args.level c.args.gap c.args.most c.args.rows.now _ _ _ c.note_values-count.ensures

pub returns-then-most-eq0 : goal.returns-then-most-eq0
returns-then-most-eq0 c = picked_none _ _ _ _ _ _ c.if-most-eq0.true

pub returns-then-count-most : goal.returns-then-count-most
returns-then-count-most c =
    picked-few _ _ _ _ _ _ _ _ c.note_values-count.ensures _ _ c.requires.2 c.if-count-most.true c.pick_above.ensures

pub slice_bounds-cut_at-end : goal.slice_bounds-cut_at-end
slice_bounds-cut_at-end c =
    omega (arith, count_most _ c.args.level c.args.gap c.args.most c.args.rows.now _ _ _ c.note_values-count.ensures)

pub slice_bounds-cut_at-end-2 : goal.slice_bounds-cut_at-end-2
slice_bounds-cut_at-end-2 c = sym (many (goal.at.slice_bounds-cut_at-end-2 c).After-note_values-count)

pub cut_at-cut-requires : goal.cut_at-cut-requires
cut_at-cut-requires c =
    (omega arith, omega (arith, many (goal.at.cut_at-cut-requires c).After-note_values-count))

pub returns : goal.returns
returns c =
    let a = c.args in
    picked_cut a.curve.now a.level a.gap a.most a.rows.now a.work.now c.note_values-count.result c.note_values-count.new.work
    c.note_values-count.ensures c.list_chosen.result c.list_chosen.new.rows c.cut_at-cut.result c.cut_at-cut.new.values
    c.requires.2 (omega arith) c.cut_at-cut.ensures (omega arith) c.list_chosen.ensures
