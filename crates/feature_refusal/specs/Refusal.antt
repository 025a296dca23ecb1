-- Document 02, No. 7: "Refusals: 1 to 4 in their order; a count other than samples over length, rounded up, is 1, a negative magnitude or non-finite sample
-- is 4."
use Rattle.std.specs.Prelude.{ℕ, ◌*◌, Bool, ◌&&◌, List, leb, eqb, length, Float}
use Rattle.numbers.specs.Limits.{most_rows, most_features, feature_width}
use Rattle.numbers.specs.Refusals.{lowest}
use Rattle.numbers.specs.Lists.{every}
use Rattle.floats.specs.Wholes.{ceiling_over}
use Rattle.sections.specs.Boundaries.{grid_fine}
use Rattle.feature_bins.specs.Bins.{bin_count}
use Rattle.feature_lanes.specs.Addends.{strength_fine}
use Rattle.feature_levels.specs.Levels.{sample_fine}
use Rattle.feature_places.specs.declared.FeatureGrid.{FeatureGrid}

-- 1: rows 0 to 1,048,576, a feature row has 1 to 2^31 samples, the rate is 1 to 192,000, and there are at most 50,000 feature rows: "samples over
-- length, rounded up"
unfoldable pub feature_bounds : (rows samples : ℕ) → FeatureGrid → Bool
feature_bounds rows samples grid =
    leb rows most_rows
    && (grid_fine grid.length grid.rate && (leb grid.count most_features && eqb grid.count (ceiling_over samples grid.length)))

-- 2: rows of 2,049 bins. 3: sixteen slots for each feature row. 4: each magnitude is fine and not negative, each sample finite.
unfoldable pub features_number : List Float → (rows : ℕ) → (samples : List Float) → FeatureGrid → (room : ℕ) → ℕ
unfolding feature_bounds
features_number magnitudes rows samples grid room =
    lowest (feature_bounds rows (length samples) grid) (eqb (length magnitudes) (rows * bin_count)) (leb (grid.count * feature_width) room)
    (every strength_fine magnitudes && every sample_fine samples)
