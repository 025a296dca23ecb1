-- `sections::find` meets its contract: what is picked at the threshold is listed first in rows (`picked-at`, `picked_part`), and the confidence is of
-- that part. Assumes nothing.
use Rattle.std.proofs.Common.{◌-◌, ◌≤◌, length, refl, ap, ◌∙◌, arith}
use Rattle.numbers.proofs.Outcomes.{open_then}
use Rattle.section_peaks.specs.Greatest.{kept_greatest}
use Rattle.sections.specs.Boundaries.{section_peaks}
use Rattle.sections.specs.Confidence.{confidence_of}
use Rattle.section_peaks.specs.Steps.{PickedIn}
use Rattle.sections.proofs.Bounds.{picked-inside, picked-length}
use Rattle.sections.proofs.Outcomes.{picked-at, picked_part, found-picked}
use Rattle.sections.proofs.find.Goals.{After-pick_boundaries-count}
use Rattle.sections.proofs.find.Goals as goal

-- what is picked
picked : (c : After-pick_boundaries-count)
    → PickedIn (length c.args.novelty.now)
    (kept_greatest c.args.novelty.now c.args.most
    (section_peaks c.args.novelty.now c.args.gap))
    c.args.rows.now
    c.mad_in.new.work c.pick_boundaries-count.result c.pick_boundaries-count.new.rows
    c.pick_boundaries-count.new.work
picked c =
    picked-at _ _ _ _ _ c.median_in-med.ensures.value c.mad_in.ensures.value c.pick_boundaries-count.ensures

-- no more than the curve has slots
few : (c : After-pick_boundaries-count) → c.pick_boundaries-count.result ≤ length
    c.args.novelty.now - 2
few c =
    let n = (picked c).picked.count_is in
    omega (arith, picked-length c.args.novelty.now c.args.gap c.args.most)

pub slice_bounds-confidence_of-end : goal.slice_bounds-confidence_of-end
slice_bounds-confidence_of-end c =
    omega (arith, few (goal.at.slice_bounds-confidence_of-end c).After-pick_boundaries-count)

pub confidence_of-sure-requires : goal.confidence_of-sure-requires
confidence_of-sure-requires c = (
  c.median_in-med.ensures.value,
  rw (picked_part _ _ _ _ (picked (goal.at.confidence_of-sure-requires c).After-pick_boundaries-count).picked)
      (picked-inside c.args.novelty.now c.args.gap c.args.most),
)

pub overflow_add-result : goal.overflow_add-result
overflow_add-result c = omega (arith, few (goal.at.overflow_add-result c).After-pick_boundaries-count)

pub returns : goal.returns
returns c =
    found-picked _ _ _ _ _ _ _ _ c.requires.0 refl refl (c.confidence_of-sure.ensures
    ∙ ap (confidence_of c.args.novelty.now) (picked_part _ _ _ _ (picked (goal.at.returns c).After-pick_boundaries-count).picked))
    (open_then _ _ _ _ c.median_in-med.ensures.works c.mad_in.ensures.works) (picked (goal.at.returns c).After-pick_boundaries-count)
