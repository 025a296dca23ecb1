-- `sections::confidence::confidence_of` meets its contract: no boundary, no range, and else the mean's part of the range. Assumes nothing.
use Rattle.std.proofs.Common.{sym, ◌∙◌, eq-eqb}
use Rattle.sections.specs.Confidence.{confidence_of}
use Rattle.sections.proofs.Confidences.{range_is, mean_is, confidence-flat, confidence-some}
use Rattle.sections.proofs.confidence.confidence_of.Goals as goal

pub returns-then-rows-eq0 : goal.returns-then-rows-eq0
unfolding confidence_of
returns-then-rows-eq0 c = rw (eq-eqb _ _ c.if-rows-eq0.true)

pub returns-then-range : goal.returns-then-range
returns-then-range c =
    let range = range_is _ _ _ c.greatest_of.ensures c.requires.0 in
    sym (confidence-flat _ _ c.if-rows-eq0.false (rw range at c.if-range.true))

pub returns : goal.returns
returns c =
    let range = range_is _ _ _ c.greatest_of.ensures c.requires.0 in
    let mean = mean_is c.args.novelty.now c.args.rows.now c.prominences.result c.args.med
    c.nearest_u64_to_f64.result c.prominences.ensures c.requires.0 c.nearest_u64_to_f64.ensures in
    c.unit_of.ensures ∙ rw (mean, range) (sym (confidence-some _ _ c.if-rows-eq0.false (rw range at c.if-range.false)))
