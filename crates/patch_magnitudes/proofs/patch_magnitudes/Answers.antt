-- `patch_magnitudes::patch_magnitudes` meets its contract: a refusal returns at once, and without one all holds that the inner calls ask
-- (`asked`), and what they write is the promise (`wrote`). Assumes nothing.
use mathlib.Core.Path.{◌≡◌, sym}
use native.Mathlib.Omega.{arith}
use lib.ListN.{length}
use Rattle.numbers.specs.Limits.{slab_of}
use Rattle.patches.specs.Patches.{patch_of}
use Rattle.patch_magnitudes.specs.Tracks.{magnitude_track, patch_number}
use Rattle.patch_magnitudes.proofs.Asked.{Asked, asked}
use Rattle.patch_magnitudes.proofs.Outcomes.{refused_on, empty, wrote}
use Rattle.patch_magnitudes.proofs.patch_magnitudes.Goals.{Else-new-eq0}
use Rattle.patch_magnitudes.proofs.patch_magnitudes.Goals as goal

none : (c : Else-new-eq0)
    → patch_number (slab_of c.args.rows c.args.bins)
    (magnitude_track c.args.magnitudes.now c.args.flux.now c.args.threshold.now)
    (patch_of c.args.start c.args.new.now) (length c.args.work.now)
    ≡ 0
none c = sym c.in_ok-refusal.ensures

ready : (c : Else-new-eq0)
    → Asked (slab_of c.args.rows c.args.bins) (magnitude_track c.args.magnitudes.now c.args.flux.now c.args.threshold.now)
    (patch_of c.args.start c.args.new.now) (length c.args.work.now)
ready c = asked _ _ _ _ (none c)

pub returns-in_err-refusal : goal.returns-in_err-refusal
returns-in_err-refusal c = refused_on _ _ _ _ _ _ c.from_residual.ensures.1 c.in_err-refusal.ensures

pub returns-then-new-eq0 : goal.returns-then-new-eq0
returns-then-new-eq0 c = empty _ _ _ _ (sym c.in_ok-refusal.ensures) c.if-new-eq0.true

pub nonzero_div-count : goal.nonzero_div-count
nonzero_div-count c = let a = ready (goal.at.nonzero_div-count c).Else-new-eq0 in omega arith

pub mend_flux-flux_past-requires : goal.mend_flux-flux_past-requires
mend_flux-flux_past-requires c =
    let a = ready (goal.at.mend_flux-flux_past-requires c).Else-new-eq0 in
    let w = a.lengths in
    record {
      magnitudes_len = (w.whole, w.new-whole, w.inside);
      magnitudes_value = (a.fine, a.new-fine);
      rows_le_most_rows = (a.fits.rows_fit, a.rooms.flux_room);
    }

pub mend_threshold-slots-requires : goal.mend_threshold-slots-requires
mend_threshold-slots-requires c =
    let a = ready (goal.at.mend_threshold-slots-requires c).Else-new-eq0 in
    (a.lengths.inside, a.fits.rows_fit, omega arith, a.rooms.threshold_room, a.rooms.work_room)

pub returns : goal.returns
returns c =
    let f = c.mend_flux-flux_past in
    let t = c.mend_threshold-slots in
    wrote _ _ _ _ (none (goal.at.returns c).Else-new-eq0) c.if-new-eq0.false _ _ _ f.ensures.value t.ensures.first_value.0 t.ensures.first_value.1 _ _ _ _
    f.ensures.magnitudes_after f.ensures.flux_after t.ensures.threshold_after t.auto.work t.ensures.work_unchanged
