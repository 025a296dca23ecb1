-- The C interface to `patch_magnitudes` and `patch_features`.
use Rattle.std.specs.Prelude.{ℕ, List, length, Float, Result}
use Rattle.numbers.specs.declared.Refusal.{Refusal}
use Rattle.numbers.specs.declared.Slab.{Slab}
use Rattle.patches.specs.Patches.{Patch}
use Rattle.patch_magnitudes.specs.Tracks as tracks
use Rattle.patch_magnitudes.specs.Magnitudes as magnitudes
use Rattle.patch_features.specs.Features as features
use Rattle.patch_magnitudes.specs.declared.Patched.{Patched}
use Rattle.patch_features.specs.declared.PatchedFeatures.{PatchedFeatures}
use Rattle.capi_answers.specs.Handed.{Handed}

-- ---- magnitudes

-- What `ph_patch_magnitudes` promises, of the number of `patch_magnitudes`: the four lent numbers are the slots named, and the slices are as that
-- call leaves them: `own` is the `Result` that it answers, of which C is told no more.
pub record RowsTold
    (number : ℕ) (slab : Slab) (was : tracks.MagnitudeTrack) (patch : Patch) (work : List Float) (lent₀ : List ℕ)
    (answer : ℕ) (now : tracks.MagnitudeTrack) (work' : List Float) (lent : List ℕ) : Type 0 where
  pub handed : Handed number (magnitudes.rows_named slab patch) lent₀ answer lent
  pub own : Result Patched Refusal
  pub slices : magnitudes.PatchMagnitudesPromise slab was patch work own now work'

abbrev pub PhPatchMagnitudesPromise : (slab : Slab) (was : tracks.MagnitudeTrack) (patch : Patch) (work : List Float) (lent₀ : List ℕ)
    (answer : ℕ) (now : tracks.MagnitudeTrack) (work' : List Float) (lent : List ℕ) → Type 0
PhPatchMagnitudesPromise slab was patch work = RowsTold (tracks.patch_number slab was patch (length work)) slab was patch work

-- the track that is lent
abbrev pub rows_lent : (magnitudes flux threshold : List Float) → tracks.MagnitudeTrack
rows_lent magnitudes flux threshold = tracks.magnitude_track magnitudes flux threshold

-- ---- features, in the same words

pub record FeaturesTold
    (number rows : ℕ) (was : features.FeatureTrack) (patch : Patch) (lent₀ : List ℕ) (answer : ℕ) (now : features.FeatureTrack) (lent : List ℕ) : Type 0 where
  pub handed : Handed number (features.features_named rows patch) lent₀ answer lent
  pub own : Result PatchedFeatures Refusal
  pub slices : features.PatchFeaturesPromise rows was patch own now

abbrev pub PhPatchFeaturesPromise : (rows : ℕ) (was : features.FeatureTrack) (patch : Patch) (lent₀ : List ℕ) (answer : ℕ) (now : features.FeatureTrack)
    (lent : List ℕ) → Type 0
PhPatchFeaturesPromise rows was patch = FeaturesTold (features.feature_patch_number rows was patch) rows was patch

abbrev pub features_lent : (slab similarity novelty : List Float) → features.FeatureTrack
features_lent slab similarity novelty = features.feature_track slab similarity novelty
