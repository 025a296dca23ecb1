-- Four lanes write four feature rows, those of them that there are (`group_is`).
use mathlib.Core.Path.{◌≡◌, refl, sym, ap, subst, ◌∙◌}
use mathlib.Core.List.{List}
use Prim.Native.Nat.{ℕ, ◌+◌, ◌*◌, ◌≤◌, ◌<◌, min}
use native.Mathlib.Omega.{arith}
use lib.ListN.{length}
use lib.Ieee.{Float}
use Rattle.numbers.specs.Lists.{filled}
use Rattle.flux_rows.specs.declared.Four.{Four}
use Rattle.feature_bins.specs.Bins.{Codes}
use Rattle.feature_sums.specs.Lanes.{FourSums}
use Rattle.feature_levels.specs.Levels.{rms_at}
use Rattle.feature_places.specs.declared.FeatureGrid.{FeatureGrid}
use Rattle.feature_parts.specs.Parts.{lane_value, lane_filled, lanes_filled}
use Rattle.features.specs.Features.{feature_at}
use Rattle.features.specs.Groups.{RowsSplit}
use Rattle.features.proofs.Values.{lane-is}
use Rattle.features.proofs.Groups.{row_written, none_written}

-- the first rows of four feature rows and of the one after them
pub record RowsSplits (grid : FeatureGrid) (rows i t p₁ p₂ p₃ p₄ : ℕ) : Type 0 where
  pub first : RowsSplit grid rows i t
  pub second : RowsSplit grid rows (i + 1) p₁
  pub third : RowsSplit grid rows (i + 2) p₂
  pub fourth : RowsSplit grid rows (i + 3) p₃
  pub last : RowsSplit grid rows (i + 4) p₄
  pub order₁ : t ≤ p₁
  pub order₂ : p₁ ≤ p₂
  pub order₃ : p₂ ≤ p₃
  pub order₄ : p₃ ≤ p₄

pub split_at : {grid : FeatureGrid} {rows t : ℕ} (i j : ℕ) → i ≡ j → RowsSplit grid rows i t → RowsSplit grid rows j t
split_at {grid} {rows} {t} i j e s = subst (λ (n : ℕ). RowsSplit grid rows n t) e s

module _ (m : List Float) (rows : ℕ) (samples : List Float) (grid : FeatureGrid) (codes : List ℕ) (table : Codes grid.rate codes) (was : List Float)
    (room : grid.count * 16 ≤ length was) (i : ℕ) (some : i < grid.count) where
  -- one lane's row more
  lane-written : (classes bands w : List Float) (lane : ℕ) (rms : Float) (j : ℕ) → i ≤ j
      → ((k : ℕ) → j * 16 ≤ k → k < (j + 1) * 16 → lane_value classes bands lane rms k ≡ feature_at m rows samples grid k)
      → w ≡ filled (feature_at m rows samples grid) was (i * 16) (min j grid.count * 16)
      → lane_filled classes bands lane rms j grid.count w ≡ filled (feature_at m rows samples grid) was (i * 16) (min (j + 1) grid.count * 16)
  unfolding lane_filled
  lane-written classes bands w lane rms j h same e =
      row_written (feature_at m rows samples grid) (lane_value classes bands lane rms) was w _ i j grid.count h (omega arith) room e refl same

  pub group_is : (classes bands : List Float) (rms : Four) (t p₁ p₂ p₃ p₄ : ℕ) → RowsSplits grid rows i t p₁ p₂ p₃ p₄
      → FourSums codes m t p₁ p₂ p₃ p₄ classes bands
      → (rms.a ≡ rms_at samples grid.length i) × (rms.b ≡ rms_at samples grid.length (i + 1)) × (rms.c ≡ rms_at samples grid.length (i + 2))
      × (rms.d ≡ rms_at samples grid.length (i + 3))
      → lanes_filled classes bands rms i grid.count was
      ≡ filled (feature_at m rows samples grid) was (i * 16) (min (i + 4) grid.count * 16)
  unfolding lanes_filled
  group_is classes bands rms t p₁ p₂ p₃ p₄ s f r =
      let rule = feature_at m rows samples grid in
      let e₁ : i + 1 + 1 ≡ i + 2 = omega arith in
      let e₂ : i + 2 + 1 ≡ i + 3 = omega arith in
      let e₃ : i + 3 + 1 ≡ i + 4 = omega arith in
      let to : (a b : ℕ) → a ≡ b → filled rule was (i * 16) (min a grid.count * 16) ≡ filled rule was (i * 16) (min b grid.count * 16) =
      λ a b e. ap (λ (n : ℕ). filled rule was (i * 16) (min n grid.count * 16)) e in
      let w₁ = lane-written classes bands was 0 rms.a i (omega arith)
      (lane-is m rows grid codes i t p₁ table s.first s.second s.order₁ samples classes bands 0 rms.a f.first r.0)
      (none_written rule was i grid.count (omega arith)) in
      let w₂ = lane-written classes bands _ 1 rms.b (i + 1) (omega arith)
      (lane-is m rows grid codes (i + 1) p₁ p₂ table s.second (split_at (i + 2) (i + 1 + 1) (sym e₁) s.third) s.order₂ samples classes bands 1 rms.b
      f.second r.1)
      w₁ in
      let w₃ = lane-written classes bands _ 2 rms.c (i + 2) (omega arith)
      (lane-is m rows grid codes (i + 2) p₂ p₃ table s.third (split_at (i + 3) (i + 2 + 1) (sym e₂) s.fourth) s.order₃ samples classes bands 2 rms.c
      f.third r.2)
      (w₂ ∙ to (i + 1 + 1) (i + 2) e₁) in
      let w₄ = lane-written classes bands _ 3 rms.d (i + 3) (omega arith)
      (lane-is m rows grid codes (i + 3) p₃ p₄ table s.fourth (split_at (i + 4) (i + 3 + 1) (sym e₃) s.last) s.order₄ samples classes bands 3 rms.d
      f.fourth r.3)
      (w₃ ∙ to (i + 2 + 1) (i + 3) e₂) in
      w₄ ∙ to (i + 3 + 1) (i + 4) e₃
