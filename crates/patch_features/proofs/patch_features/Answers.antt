-- `patch_features::patch_features` meets its contract: a refusal returns at once, and without one all holds that the inner calls ask (`asked`), and what
-- they write is the promise (`wrote`). Assumes nothing.
use mathlib.Core.Path.{◌≡◌, sym, ◌∙◌}
use Prim.Native.Nat.{◌+◌, ◌-◌, ◌*◌, ◌/◌, ◌≤◌}
use native.Mathlib.Nat.{sub-zero}
use native.Mathlib.Omega.{arith}
use lib.Ieee.{nan}
use lib.ListN.{length, take}
use lib.Seq.{length-take-le}
use Rattle.numbers.proofs.Overs.{length_over, patch_fits}
use Rattle.numbers.specs.Limits.{feature_width}
use Rattle.patches.specs.Patches.{patch_of, edited}
use Rattle.patch_features.specs.Features.{feature_track, feature_patch_number}
use Rattle.patch_features.proofs.Asked.{Asked, asked}
use Rattle.patch_features.proofs.Outcomes.{refused_on, empty, wrote}
use Rattle.patch_features.proofs.patch_features.Goals.{Else-new-eq0}
use Rattle.patch_features.proofs.patch_features.Goals as goal

none : (c : Else-new-eq0)
    → feature_patch_number c.args.rows (feature_track c.args.features.now c.args.similarity.now c.args.novelty.now)
    (patch_of c.args.start c.args.new.now) ≡ 0
none c = sym c.in_ok-refusal.ensures

ready : (c : Else-new-eq0)
    → Asked c.args.rows (feature_track c.args.features.now c.args.similarity.now c.args.novelty.now)
    (patch_of c.args.start c.args.new.now)
ready c = asked _ _ _ (none c)

fits : (c : Else-new-eq0) → c.args.start * feature_width + length c.args.new.now ≤ length c.args.features.now
fits c =
    let w = (ready c).lengths in
    patch_fits c.args.features.now c.args.new.now c.args.rows feature_width c.args.start
    (length c.args.new.now / feature_width) nan w.whole w.new-whole w.inside

pub returns-in_err-refusal : goal.returns-in_err-refusal
returns-in_err-refusal c = refused_on _ _ _ _ _ c.from_residual.ensures.1 c.in_err-refusal.ensures

pub returns-then-new-eq0 : goal.returns-then-new-eq0
returns-then-new-eq0 c = empty _ _ _ (sym c.in_ok-refusal.ensures) c.if-new-eq0.true

pub overflow_mul-start : goal.overflow_mul-start
overflow_mul-start c = omega (arith, fits (goal.at.overflow_mul-start c).Else-new-eq0)

pub put_over-requires : goal.put_over-requires
put_over-requires c = fits (goal.at.put_over-requires c).Else-new-eq0

pub overflow_add-past : goal.overflow_add-past
overflow_add-past c =
    let r = ready (goal.at.overflow_add-past c).Else-new-eq0 in
    omega arith

pub first_pair-similarity_first-requires : goal.first_pair-similarity_first-requires
first_pair-similarity_first-requires c =
    let r = ready (goal.at.first_pair-similarity_first-requires c).Else-new-eq0 in
    omega arith

pub overflow_mul-similarity_past : goal.overflow_mul-similarity_past
overflow_mul-similarity_past c =
    let r = ready (goal.at.overflow_mul-similarity_past c).Else-new-eq0 in
    omega arith

pub mend_similarity-requires : goal.mend_similarity-requires
mend_similarity-requires c =
    let r = ready (goal.at.mend_similarity-requires c).Else-new-eq0 in
    rw c.put_over.ensures
    (length_over _ _ _ (fits (goal.at.mend_similarity-requires c).Else-new-eq0) ∙ r.lengths.whole, omega arith, omega arith, omega arith, omega arith)

pub overflow_add-past-2 : goal.overflow_add-past-2
overflow_add-past-2 c =
    let r = ready (goal.at.overflow_add-past-2 c).Else-new-eq0 in
    omega arith

pub overflow_mul-pairs : goal.overflow_mul-pairs
overflow_mul-pairs c =
    let r = ready (goal.at.overflow_mul-pairs c).Else-new-eq0 in
    omega arith

pub slice_bounds-fill_novelty-count : goal.slice_bounds-fill_novelty-count
slice_bounds-fill_novelty-count c =
    let r = ready (goal.at.slice_bounds-fill_novelty-count c).Else-new-eq0 in
    omega arith

pub slice_bounds-fill_novelty-end : goal.slice_bounds-fill_novelty-end
slice_bounds-fill_novelty-end c =
    let r = ready (goal.at.slice_bounds-fill_novelty-end c).Else-new-eq0 in
    omega arith

pub fill_novelty-requires : goal.fill_novelty-requires
fill_novelty-requires c =
    let r = ready (goal.at.fill_novelty-requires c).Else-new-eq0 in
    let pairs = c.args.rows * 17 in
    let similarity = c.mend_similarity.new.similarity in
    let l : length (take (pairs - 0) similarity) ≡ pairs = length-take-le (pairs - 0) similarity (omega arith) ∙ sub-zero pairs in
    (l, omega arith, omega arith, omega arith)

pub returns : goal.returns
unfolding edited
returns c =
    let pairs = c.args.rows * 17 in
    wrote _ _ _ (none (goal.at.returns c).Else-new-eq0) c.if-new-eq0.false _ _ _ c.first_pair-similarity_first.ensures c.saturating_sub-novelty_first.ensures
    c.min-novelty_past.ensures _ _ _
    c.put_over.ensures c.mend_similarity.ensures
    (rw (sub-zero pairs) at c.fill_novelty.ensures)
