-- What the code knows once nothing is refused, and where it stands among the rows of the transform. No promise of a call is written in these words.
use Rattle.std.specs.Prelude.{ℕ, ◌*◌, ◌≤◌, ◌<◌, ◌≡◌, true, List, length, Float}
use Rattle.numbers.specs.Limits.{most_rate, most_rows, most_length, most_features, feature_width}
use Rattle.numbers.specs.Lists.{every}
use Rattle.feature_bins.specs.Bins.{bin_count}
use Rattle.feature_lanes.specs.Addends.{strength_fine}
use Rattle.feature_levels.specs.Levels.{sample_fine}
use Rattle.feature_places.specs.declared.FeatureGrid.{FeatureGrid}
use Rattle.feature_places.specs.Places.{feature_row_of}

-- the inputs are in their bounds, and there is room
pub record FeaturesReady (magnitudes : List Float) (rows : ℕ) (samples : List Float) (grid : FeatureGrid) (features : List Float) : Type 0 where
  pub rows_fine : rows ≤ most_rows
  pub rate_some : 1 ≤ grid.rate
  pub rate_fine : grid.rate ≤ most_rate
  pub length_some : 1 ≤ grid.length
  pub length_fine : grid.length ≤ most_length
  pub count_fine : grid.count ≤ most_features
  pub whole : length magnitudes ≡ rows * bin_count
  pub strengths : every strength_fine magnitudes ≡ true
  pub levels : every sample_fine samples ≡ true
  pub room : grid.count * feature_width ≤ length features

-- the rows before row t belong to feature rows before row i, the others to row i or later ones
pub record RowsSplit (grid : FeatureGrid) (rows i t : ℕ) : Type 0 where
  pub inside : t ≤ rows
  pub before : (u : ℕ) → u < t → feature_row_of grid u < i
  pub after : (u : ℕ) → t ≤ u → u < rows → i ≤ feature_row_of grid u
