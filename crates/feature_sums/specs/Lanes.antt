-- The sums of four feature rows side by side, a feature row to a lane (crate feature_lanes). No promise of a call is written in these words.
use Rattle.std.specs.Prelude.{ℕ, ◌+◌, ◌-◌, ◌*◌, ◌<◌, ◌≡◌, Bool, true, List, ltb, length, get_or, Float}
use Rattle.std.specs.Float.{nan}
use Rattle.numbers.specs.Rounded.{nought, pick, sum_of, squared}
use Rattle.numbers.specs.Lists.{row}
use Rattle.feature_bins.specs.Bins.{bin_count}
use Rattle.feature_lanes.specs.Addends.{itself, by_class, by_band, gathered}

-- a row of zeros, which adds nothing
pub record ZeroRow (zeros : List Float) : Type 0 where
  pub whole : length zeros ≡ bin_count
  pub zero : (i : ℕ) → i < bin_count → get_or zeros i nan ≡ nought

-- row t, or the zeros from row `past` on
unfoldable pub row_of_lane : (magnitudes zeros : List Float) (t past : ℕ) → List Float
row_of_lane magnitudes zeros t past = pick (ltb t past) (row magnitudes bin_count t) zeros

-- every row
abbrev pub all : ℕ → Bool
all t = true

-- a lane's sums are those of n rows from row t on
pub record LaneSums (codes : List ℕ) (magnitudes : List Float) (t n : ℕ) (classes bands : List Float) (lane : ℕ) : Type 0 where
  pub class : (p : ℕ) → p < 13 → get_or classes (p * 4 + lane) nan ≡ sum_of (gathered itself (by_class codes p) all magnitudes t n)
  pub band : (p : ℕ) → p < 3 → get_or bands (p * 4 + lane) nan ≡ sum_of (gathered squared (by_band codes p) all magnitudes t n)

-- four lanes: the rows from p₀ up to p₁, from there up to p₂, and so on
pub record FourSums (codes : List ℕ) (magnitudes : List Float) (p₀ p₁ p₂ p₃ p₄ : ℕ) (classes bands : List Float) : Type 0 where
  pub classes_whole : length classes ≡ 52
  pub bands_whole : length bands ≡ 12
  pub first : LaneSums codes magnitudes p₀ (p₁ - p₀) classes bands 0
  pub second : LaneSums codes magnitudes p₁ (p₂ - p₁) classes bands 1
  pub third : LaneSums codes magnitudes p₂ (p₃ - p₂) classes bands 2
  pub fourth : LaneSums codes magnitudes p₃ (p₄ - p₃) classes bands 3

-- nothing was added yet
pub record NoSums (classes bands : List Float) : Type 0 where
  pub classes_whole : length classes ≡ 52
  pub bands_whole : length bands ≡ 12
  pub class : (i : ℕ) → i < 52 → get_or classes i nan ≡ nought
  pub band : (i : ℕ) → i < 12 → get_or bands i nan ≡ nought
