-- The values of a feature row from the sums of its rows: the rows that belong to it lie together, and the table tells the bins of each sum, so a lane's sums
-- are the definition's (`lane-is`).
use mathlib.Core.Path.{◌≡◌, refl, sym, ap, ◌∙◌}
use mathlib.Core.Bool.{true, false}
use mathlib.Core.List.{List}
use mathlib.Core.Logic.{◌⊎◌, inl, inr}
use Prim.Native.Nat.{ℕ, ◌+◌, ◌-◌, ◌*◌, ◌/◌, ◌%◌, ◌≤◌, ◌<◌}
use native.Mathlib.Omega.{arith}
use lib.Dec.{eqb, ltb}
use lib.Ieee.{Float}
use borrow.Author.Tests.{eq-eqb, ne_eqb, lt-ltb, le-ltb}
use Rattle.numbers.specs.Rounded.{◌⊕◌, sum_of, squared}
use Rattle.numbers.specs.Lists.{curve}
use Rattle.numbers.proofs.Tests.{lt_or_le, pick_true, pick-false}
use Rattle.numbers.proofs.Tabs.{tab_ext}
use Rattle.feature_bins.specs.Bins.{in_class, in_band, Codes}
use Rattle.feature_bins.proofs.Tables.{class_by_code, band_by_code}
use Rattle.feature_lanes.specs.Addends.{itself, by_class, by_band, gathered}
use Rattle.feature_sums.specs.Lanes.{all, LaneSums}
use Rattle.feature_sums.proofs.Gathered.{gathered_ext, gathered_part}
use Rattle.feature_levels.specs.Levels.{rms_at}
use Rattle.feature_places.specs.declared.FeatureGrid.{FeatureGrid}
use Rattle.feature_places.specs.Places.{feature_row_of}
use Rattle.feature_parts.specs.Parts.{greatest_of, part_of, value_from, lane_sum, lane_value}
use Rattle.features.specs.Features.{belongs_to, chroma_at, band_at, feature_of, feature_at}
use Rattle.features.specs.Groups.{RowsSplit}

-- ---- values of equal sums

module _ (class class' band band' : ℕ → Float) (rms rms' : Float) (c : (p : ℕ) → p < 12 → class p ≡ class' p) (b : (p : ℕ) → p < 3 → band p ≡ band' p)
    (r : rms ≡ rms') where
  greatest-same : greatest_of (curve class 12) ≡ greatest_of (curve class' 12)
  greatest-same = ap greatest_of (tab_ext class class' 0 12 (λ p h k. c p (omega arith)))

  total-same : band 0 ⊕ band 1 ⊕ band 2 ≡ band' 0 ⊕ band' 1 ⊕ band' 2
  total-same =
      ap (λ (x : Float). x ⊕ band 1 ⊕ band 2) (b 0 (omega arith))
      ∙ ap (λ (x : Float). band' 0 ⊕ x ⊕ band 2) (b 1 (omega arith))
      ∙ ap (λ (x : Float). band' 0 ⊕ band' 1 ⊕ x) (b 2 (omega arith))

  value_same : (j : ℕ) → value_from class band rms j ≡ value_from class' band' rms' j
  unfolding value_from
  value_same j = go (lt_or_le j 12) (lt_or_le j 15)
    where
      go : (j < 12) ⊎ (12 ≤ j) → (j < 15) ⊎ (15 ≤ j) → value_from class band rms j ≡ value_from class' band' rms' j
      go (inl h) k =
          let t = lt-ltb j 12 h in
          pick_true (ltb j 12) _ _ t
          ∙ ap (λ (x : Float). part_of x (greatest_of (curve class 12))) (c j h)
          ∙ ap (part_of (class' j)) greatest-same
          ∙ sym (pick_true (ltb j 12) _ _ t)
      go (inr h) (inl k) =
          let t = le-ltb j 12 h in
          let u = lt-ltb j 15 k in
          pick-false (ltb j 12) _ _ t ∙ pick_true (ltb j 15) _ _ u
          ∙ ap (λ (x : Float). part_of x (band 0 ⊕ band 1 ⊕ band 2)) (b (j - 12) (omega arith))
          ∙ ap (part_of (band' (j - 12))) total-same
          ∙ sym (pick-false (ltb j 12) _ _ t ∙ pick_true (ltb j 15) _ _ u)
      go (inr h) (inr k) =
          let t = le-ltb j 12 h in
          let u = le-ltb j 15 k in
          pick-false (ltb j 12) _ _ t ∙ pick-false (ltb j 15) _ _ u ∙ r ∙ sym (pick-false (ltb j 12) _ _ t ∙ pick-false (ltb j 15) _ _ u)

-- ---- the sums of a feature row are those of its rows, which lie together

module _ (m : List Float) (rows : ℕ) (grid : FeatureGrid) (codes : List ℕ) (i t u : ℕ) (table : Codes grid.rate codes) (here : RowsSplit grid rows i t)
    (next : RowsSplit grid rows (i + 1) u) (order : t ≤ u) where
  before : (v : ℕ) → v < t → belongs_to grid i v ≡ false
  before v h = ne_eqb (feature_row_of grid v) i (λ e. omega (arith, here.before v h))

  inside : (v : ℕ) → t ≤ v → v < u → belongs_to grid i v ≡ true
  inside v h k = eq-eqb (feature_row_of grid v) i (omega (arith, here.after v h (omega (arith, next.inside)), next.before v k))

  after : (v : ℕ) → u ≤ v → v < rows → belongs_to grid i v ≡ false
  after v h k = ne_eqb (feature_row_of grid v) i (λ e. omega (arith, next.after v h k))

  chroma_is : (p : ℕ) → p < 12 → chroma_at m rows grid i p ≡ sum_of (gathered itself (by_class codes p) all m t (u - t))
  unfolding chroma_at
  chroma_is p h =
      ap sum_of
      (gathered_part itself (in_class grid.rate p) (belongs_to grid i) m rows t u order next.inside before inside after
      ∙ gathered_ext itself (in_class grid.rate p) (by_class codes p) all all m (u - t) t
      (λ k l. class_by_code grid.rate p k h ∙ ap (λ (x : ℕ). eqb (x / 4) p) (sym (table.code k l))) (λ v a b. refl))

  band-is : (p : ℕ) → p < 3 → band_at m rows grid i p ≡ sum_of (gathered squared (by_band codes p) all m t (u - t))
  unfolding band_at
  band-is p h =
      ap sum_of
      (gathered_part squared (in_band grid.rate p) (belongs_to grid i) m rows t u order next.inside before inside after
      ∙ gathered_ext squared (in_band grid.rate p) (by_band codes p) all all m (u - t) t
      (λ k l. band_by_code grid.rate p k ∙ ap (λ (x : ℕ). eqb (x % 4) p) (sym (table.code k l))) (λ v a b. refl))

  -- so a lane's values are those of feature row i
  pub lane-is : (samples classes bands : List Float) (lane : ℕ) (rms : Float) → LaneSums codes m t (u - t) classes bands lane
      → rms ≡ rms_at samples grid.length i
      → (k : ℕ) → i * 16 ≤ k → k < (i + 1) * 16 → lane_value classes bands lane rms k ≡ feature_at m rows samples grid k
  unfolding lane_value feature_at feature_of
  lane-is samples classes bands lane rms s r k lo hi =
      let q : k / 16 ≡ i = omega arith in
      value_same (lane_sum classes lane) (chroma_at m rows grid i) (lane_sum bands lane) (band_at m rows grid i) rms (rms_at samples grid.length i)
      (λ p h. s.class p (omega arith) ∙ sym (chroma_is p h)) (λ p h. s.band p h ∙ sym (band-is p h)) r (k % 16)
      ∙ ap (λ (n : ℕ). feature_of m rows samples grid n (k % 16)) (sym q)
