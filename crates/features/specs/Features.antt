-- Document 02, No. 7: "From lent magnitude rows with 2,049 bins (transform 4,096, hop 1,024), samples, rate, feature length and count, fill the 16 values as in
-- structure.rs: twelve chroma over the greatest, three band fractions, RMS." What a bin and a row add to is in feature_bins and feature_places.
use Rattle.std.specs.Prelude.{ℕ, ◌*◌, ◌/◌, ◌%◌, Bool, List, eqb, length, Float}
use Rattle.numbers.specs.Rounded.{sum_of, squared}
use Rattle.numbers.specs.Limits.{feature_width}
use Rattle.numbers.specs.Lists.{filled}
use Rattle.numbers.specs.Outcomes.{Written}
use Rattle.feature_bins.specs.Bins.{in_class, in_band}
use Rattle.feature_lanes.specs.Addends.{itself, gathered}
use Rattle.feature_levels.specs.Levels.{rms_at}
use Rattle.feature_places.specs.declared.FeatureGrid.{FeatureGrid}
use Rattle.feature_places.specs.Places.{feature_row_of}
use Rattle.feature_parts.specs.Parts.{value_from}
use Rattle.feature_refusal.specs.Refusal.{features_number}

-- ---- the sums, in ascending order of rows, then of bins

-- row t of the transform belongs to feature row i
abbrev pub belongs_to : FeatureGrid → (i t : ℕ) → Bool
belongs_to grid i t = eqb (feature_row_of grid t) i

-- feature row i's sum of the magnitudes of pitch class p
unfoldable pub chroma_at : List Float → (rows : ℕ) → FeatureGrid → (i p : ℕ) → Float
unfolding gathered in_class feature_row_of
chroma_at magnitudes rows grid i p = sum_of (gathered itself (in_class grid.rate p) (belongs_to grid i) magnitudes 0 rows)

-- its sum of the squares of the magnitudes of band b
unfoldable pub band_at : List Float → (rows : ℕ) → FeatureGrid → (i b : ℕ) → Float
unfolding gathered in_band feature_row_of
band_at magnitudes rows grid i b = sum_of (gathered squared (in_band grid.rate b) (belongs_to grid i) magnitudes 0 rows)

-- ---- the values

-- value j of feature row i: twelve pitch classes over the greatest, three bands over their total, and the RMS of its samples
unfoldable pub feature_of : List Float → (rows : ℕ) → (samples : List Float) → FeatureGrid → (i j : ℕ) → Float
unfolding chroma_at band_at rms_at value_from
feature_of magnitudes rows samples grid i j =
    value_from (chroma_at magnitudes rows grid i) (band_at magnitudes rows grid i) (rms_at samples grid.length i) j

-- slot k of the flat slice: sixteen values a row
unfoldable pub feature_at : List Float → (rows : ℕ) → (samples : List Float) → FeatureGrid → (k : ℕ) → Float
unfolding feature_of
feature_at magnitudes rows samples grid k = feature_of magnitudes rows samples grid (k / feature_width) (k % feature_width)

-- ---- the call

-- What `feature_rows` promises: the number, and sixteen values for each feature row in the lent list, which was `was`.
abbrev pub FeatureRowsPromise : List Float → (rows : ℕ) → (samples : List Float) → FeatureGrid → (was : List Float) → (answer : ℕ) → (after : List Float)
    → Type 0
FeatureRowsPromise magnitudes rows samples grid was answer after =
    Written (features_number magnitudes rows samples grid (length was))
    (filled (feature_at magnitudes rows samples grid) was 0 (grid.count * feature_width)) was answer after
