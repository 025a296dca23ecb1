-- A patch that is not refused and has rows: the mended curves of fresh ones are those of the edited rows (the laws of locality,
-- `flux_local` and `threshold_local`), the slots behind them stay, and fine rows have a fine flux and a fine threshold.
use mathlib.Core.Bool.{true}
use mathlib.Core.List.{List}
use mathlib.Core.Logic.{◌⊎◌, inl, inr, ⊎_elim}
use mathlib.Core.Path.{◌≡◌, sym, ap, ◌∙◌}
use Prim.Native.Nat.{ℕ, ◌+◌, ◌/◌, ◌≤◌, ◌<◌, min}
use native.Mathlib.Omega.{arith}
use lib.Ieee.{Float, nan}
use lib.ListN.{length, get_or, take, drop}
use Rattle.numbers.proofs.Tabs.{length-tab, get_or-curve}
use Rattle.numbers.specs.Limits.{most_bins, magnitude_fine, value_fine}
use Rattle.numbers.specs.Lists.{curve, every, filled}
use Rattle.numbers.specs.declared.Slab.{Slab}
use Rattle.flux.proofs.Fluxes.{flux-over, flux_local, flux_curve_within, flux_curve_fine}
use Rattle.threshold.proofs.Thresholds.{threshold_local, threshold_curve_fine}
use Rattle.flux.specs.Flux.{flux_at}
use Rattle.threshold.specs.Threshold.{reach, threshold_at}
use Rattle.patches.proofs.Parts.{take-filled, drop-filled}
use Rattle.patches.specs.Patches.{Patch, edited}
use Rattle.patch_magnitudes.specs.Tracks.{MagnitudeTrack}
use Rattle.patch_magnitudes.specs.Magnitudes.{
  flux_first,
  flux_past,
  threshold_first,
  threshold_past,
  mended_flux,
  mended_threshold,
}
use Rattle.patch_magnitudes.specs.Runs.{flux_curve, threshold_curve, Fresh}
use Rattle.patch_magnitudes.proofs.Asked.{Asked}

-- ---- one patch

module _ (slab : Slab) (was : MagnitudeTrack) (patch : Patch) (room : ℕ) (a : Asked slab was patch room) where
  abbrev rows_now : List Float
  rows_now = edited slab.bins was.magnitudes patch

  -- a flux slot outside a to b stays
  flux_stays : (i : ℕ) → i < slab.rows → (i < flux_first patch) ⊎ (flux_past slab patch ≤ i) → flux_at rows_now slab i ≡ flux_at was.magnitudes slab i
  unfolding edited
  flux_stays i h =
      let w = a.lengths in
      let over = flux-over was.magnitudes patch.new slab patch.start (length patch.new / slab.bins) w.whole w.new-whole w.inside i in
      ⊎_elim (λ (u : i < patch.start). over (inl u)) (λ (u : flux_past slab patch ≤ i). over (inr (omega arith)))

  flux-order : flux_first patch ≤ flux_past slab patch
  flux-order = let w = a.lengths in omega arith

  -- the mended flux of a fresh one
  pub flux_mends : take slab.rows was.flux ≡ flux_curve slab was.magnitudes → take slab.rows (mended_flux slab was patch) ≡ flux_curve slab rows_now
  unfolding mended_flux flux_curve edited
  flux_mends e =
      let w = a.lengths in
      take-filled (flux_at rows_now slab) was.flux slab.rows (flux_first patch) (flux_past slab patch) flux-order (omega arith) a.rooms.flux_room
      ∙ ap (λ (d : List Float). filled (flux_at rows_now slab) d (flux_first patch) (flux_past slab patch)) e
      ∙ flux_local was.magnitudes patch.new slab patch.start (length patch.new / slab.bins) w.whole w.new-whole w.inside

  threshold-order : threshold_first patch ≤ threshold_past slab patch
  threshold-order = let w = a.lengths in omega arith

  curves_agree : (i : ℕ) → i < slab.rows → (i < flux_first patch) ⊎ (flux_past slab patch ≤ i)
      → get_or (flux_curve slab rows_now) i nan ≡ get_or (flux_curve slab was.magnitudes) i nan
  unfolding flux_curve
  curves_agree i h u =
      get_or-curve (flux_at rows_now slab) slab.rows i nan h ∙ flux_stays i h u ∙ sym (get_or-curve (flux_at was.magnitudes slab) slab.rows i nan h)

  length-curve : (s : List Float) → length (flux_curve slab s) ≡ slab.rows
  unfolding flux_curve
  length-curve s = length-tab (flux_at s slab) 0 slab.rows

  -- the mended threshold of a fresh one
  pub threshold_mends : Fresh slab was → take slab.rows (mended_threshold slab was patch) ≡ threshold_curve slab rows_now
  unfolding mended_threshold threshold_curve
  threshold_mends fresh =
      let w = a.lengths in
      let m : min (flux_past slab patch + reach) slab.rows ≡ threshold_past slab patch = omega arith in
      take-filled (threshold_at (take slab.rows (mended_flux slab was patch))) was.threshold slab.rows (threshold_first patch) (threshold_past slab patch)
      threshold-order (omega arith) a.rooms.threshold_room
      ∙ ap (λ (c : List Float). filled (threshold_at c) (take slab.rows was.threshold) (threshold_first patch) (threshold_past slab patch))
      (flux_mends fresh.flux)
      ∙ ap (λ (d : List Float). filled (threshold_at (flux_curve slab rows_now)) d (threshold_first patch) (threshold_past slab patch)) fresh.threshold
      ∙ ap (filled (threshold_at (flux_curve slab rows_now)) (curve (threshold_at (flux_curve slab was.magnitudes)) slab.rows) (threshold_first patch)) (sym m)
      ∙ threshold_local (flux_curve slab was.magnitudes) (flux_curve slab rows_now) slab.rows (flux_first patch) (flux_past slab patch)
      (length-curve was.magnitudes) (length-curve rows_now) flux-order (omega arith) curves_agree

  -- what lies behind the curves stays
  pub flux-rest : drop slab.rows (mended_flux slab was patch) ≡ drop slab.rows was.flux
  unfolding mended_flux
  flux-rest = drop-filled (flux_at rows_now slab) was.flux slab.rows (flux_first patch) (flux_past slab patch) flux-order (omega arith) a.rooms.flux_room

  pub threshold-rest : drop slab.rows (mended_threshold slab was patch) ≡ drop slab.rows was.threshold
  unfolding mended_threshold
  threshold-rest =
      drop-filled (threshold_at (take slab.rows (mended_flux slab was patch))) was.threshold slab.rows (threshold_first patch) (threshold_past slab patch)
      threshold-order (omega arith) a.rooms.threshold_room

-- ---- sizes

module _ (slab : Slab) (s : List Float) (fine : every magnitude_fine s ≡ true) (bins_fit : slab.bins ≤ most_bins) where
  pub fluxes-fine : every value_fine (flux_curve slab s) ≡ true
  unfolding flux_curve
  fluxes-fine = flux_curve_fine s slab fine bins_fit

  pub thresholds-fine : every value_fine (threshold_curve slab s) ≡ true
  unfolding threshold_curve flux_curve
  thresholds-fine =
      ap (λ (k : ℕ). every value_fine (curve (threshold_at (curve (flux_at s slab) slab.rows)) k)) (sym (length-tab (flux_at s slab) 0 slab.rows))
      ∙ threshold_curve_fine (curve (flux_at s slab) slab.rows) (flux_curve_within s slab fine bins_fit)
