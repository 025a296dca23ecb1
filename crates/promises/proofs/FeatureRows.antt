-- Document 02, No. 7: what `feature_rows` writes is what `similarity` takes, whatever was sung. Twelve pitch classes and three band fractions lie within 0 to
-- 1 and the RMS within 2^144 (features' `feature_part`, `feature_level`), so no value is one that number 4 names. Assumes nothing.
use mathlib.Core.Path.{◌≡◌, sym, ap, ◌∙◌}
use mathlib.Core.List.{List}
use Prim.Native.Nat.{ℕ, ◌*◌, ◌≤◌}
use lib.Dec.{leb, eqb}
use lib.ListN.{length, take}
use lib.Ieee.{Float}
use borrow.Author.Tests.{le-leb, eq-eqb}
use Rattle.numbers.specs.Limits.{most_features, feature_width, value_fine}
use Rattle.numbers.specs.Lists.{curve, every}
use Rattle.numbers.proofs.Tests.{lowest_0, passed_does}
use Rattle.numbers.proofs.Tabs.{length-tab, filled-first}
use Rattle.row_pairs.specs.Pairs.{band_width}
use Rattle.similarities.specs.Similarity.{similarity_number}
use Rattle.feature_places.specs.declared.FeatureGrid.{FeatureGrid}
use Rattle.features.specs.Features.{feature_at, FeatureRowsPromise}
use Rattle.features.proofs.Groups.{ready_of}
use Rattle.features.proofs.Fine.{features-fine}

module _ (magnitudes : List Float) (rows : ℕ) (samples : List Float) (grid : FeatureGrid) (was after : List Float)
    (answered : FeatureRowsPromise magnitudes rows samples grid was 0 after) where
  -- the first slots, sixteen for each feature row, are the feature rows
  pub features_are : take (grid.count * feature_width) after ≡ curve (feature_at magnitudes rows samples grid) (grid.count * feature_width)
  features_are =
      ap (take (grid.count * feature_width)) (answered.slots_are ∙ passed_does _ _ _ (sym answered.number_is))
      ∙ filled-first (feature_at magnitudes rows samples grid) was (grid.count * feature_width)

  -- with room for their similarities, `similarity` answers 0
  pub features-taken : (room : ℕ) → grid.count * band_width ≤ room → similarity_number (take (grid.count * feature_width) after) grid.count room ≡ 0
  unfolding similarity_number
  features-taken room h =
      let xs = curve (feature_at magnitudes rows samples grid) (grid.count * feature_width) in
      let passed = sym answered.number_is in
      let ready = ready_of magnitudes rows samples grid was passed in
      ap (λ (ys : List Float). similarity_number ys grid.count room) features_are
      ∙ lowest_0 (leb grid.count most_features) (eqb (length xs) (grid.count * feature_width)) (leb (grid.count * band_width) room) (every value_fine xs)
      (le-leb _ _ ready.count_fine) (eq-eqb _ _ (length-tab (feature_at magnitudes rows samples grid) 0 (grid.count * feature_width))) (le-leb _ _ h)
      (features-fine magnitudes rows samples grid was passed)
