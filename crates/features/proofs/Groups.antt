-- Four feature rows at a time: the rows of each follow those of the one before (`split_next`), and each lane writes its feature row (`group-written`).
use mathlib.Core.Path.{◌≡◌, refl, sym, ap, ◌∙◌}
use mathlib.Core.List.{List}
use mathlib.Core.Logic.{◌⊎◌, inl, inr}
use Prim.Native.Nat.{ℕ, ◌+◌, ◌*◌, ◌≤◌, ◌<◌, min}
use native.Mathlib.Nat.{not-suc-le-zero}
use native.Mathlib.Omega.{arith}
use lib.ListN.{length, replicate, length-replicate, get_or-replicate}
use lib.Ieee.{Float, nan, binary32, of_bits}
use Rattle.numbers.specs.Rounded.{nought}
use mathlib.Core.Bool.{true, ◌&&◌}
use lib.Dec.{leb, eqb}
use borrow.Author.Tests.{leb-true, eqb-true}
use Rattle.numbers.specs.Lists.{filled, every}
use Rattle.numbers.proofs.Tests.{lt_or_le, and_left, and_right, lowest-zero}
use Rattle.numbers.proofs.Tabs.{filled_none, filled_join, filled_ext}
use Rattle.feature_bins.specs.Bins.{bin_count, Codes, Pasts}
use Rattle.feature_bins.proofs.Tables.{class-below, band-below}
use Rattle.feature_lanes.specs.Addends.{strength_fine, Table}
use Rattle.feature_levels.specs.Levels.{sample_fine}
use Rattle.feature_sums.specs.Lanes.{ZeroRow, NoSums}
use Rattle.feature_places.specs.declared.FeatureGrid.{FeatureGrid}
use Rattle.feature_places.specs.Places.{feature_row_of}
use Rattle.feature_places.proofs.Ascending.{place_mono}
use Rattle.feature_refusal.specs.Refusal.{feature_bounds, features_number}
use Rattle.feature_refusal.proofs.Counts.{told}
use Rattle.features.specs.Groups.{FeaturesReady, RowsSplit}

-- ---- where the rows of a feature row end

module _ {m : List Float} {samples features : List Float} {rows : ℕ} {grid : FeatureGrid} (ready : FeaturesReady m rows samples grid features) where
  pub split_next : (i t u : ℕ) → RowsSplit grid rows i t → t ≤ u → u ≤ rows
      → ((v : ℕ) → t ≤ v → v < u → feature_row_of grid v ≤ i) → (u < rows → i < feature_row_of grid u) → RowsSplit grid rows (i + 1) u
  split_next i t u s h k passed stopped =
      record {
        inside = k;
        before = λ v l. earlier v l (lt_or_le v t);
        after = λ v l l'. later v l l';
      }
    where
      earlier : (v : ℕ) → v < u → (v < t) ⊎ (t ≤ v) → feature_row_of grid v < i + 1
      earlier v l (inl a) = omega (arith, s.before v a)
      earlier v l (inr a) = omega (arith, passed v a l)

      later : (v : ℕ) → u ≤ v → v < rows → i + 1 ≤ feature_row_of grid v
      later v l l' =
          let a : i < feature_row_of grid u = stopped (omega arith) in
          let b : feature_row_of grid u ≤ feature_row_of grid v =
          place_mono grid ready.rate_some ready.rate_fine ready.length_some ready.length_fine u v l (omega (arith, ready.rows_fine)) in
          omega arith

pub split_start : (grid : FeatureGrid) (rows : ℕ) → RowsSplit grid rows 0 0
split_start grid rows = record { inside = omega arith; before = λ v l. absurd (not-suc-le-zero l); after = λ v l l'. omega arith }

-- ---- the table, the zeros, and sums to begin with

pub table_of : (rate : ℕ) (codes pasts : List ℕ) → Codes rate codes → Pasts codes 0 pasts → Table codes pasts
table_of rate codes pasts c p =
    record {
      whole = c.whole;
      class_under = λ k h. rw (c.code k h) (class-below rate k);
      band_under = λ k h. rw (c.code k h) (band-below rate k);
      stretches = p;
    }

pub no_sums : NoSums (replicate 52 nought) (replicate 12 nought)
no_sums =
    record {
      classes_whole = length-replicate 52 nought;
      bands_whole = length-replicate 12 nought;
      class = λ i h. get_or-replicate 52 i nought nan h;
      band = λ i h. get_or-replicate 12 i nought nan h;
    }

-- 0 in binary32 is +0
zero_is : of_bits binary32 0 ≡ nought
unfolding of_bits
zero_is = refl

pub zero_row : ZeroRow (replicate 2049 (of_bits binary32 0))
zero_row =
    record { whole = length-replicate 2049 (of_bits binary32 0); zero = λ i h. get_or-replicate 2049 i (of_bits binary32 0) nan h ∙ zero_is }

-- another list of the same room
pub ready_with : {m samples features features' : List Float} {rows : ℕ} {grid : FeatureGrid} → FeaturesReady m rows samples grid features
    → length features' ≡ length features → FeaturesReady m rows samples grid features'
ready_with r e =
    record {
      rows_fine = r.rows_fine;
      rate_some = r.rate_some;
      rate_fine = r.rate_fine;
      length_some = r.length_some;
      length_fine = r.length_fine;
      count_fine = r.count_fine;
      whole = r.whole;
      strengths = r.strengths;
      levels = r.levels;
      room = omega (arith, r.room);
    }

-- ---- feature rows written one after the other

-- the rows before row j are written, and then row j where there is one
pub row_written : (rule f : ℕ → Float) (was w w' : List Float) (i j count : ℕ) → i ≤ j → i ≤ count → count * 16 ≤ length was
    → w ≡ filled rule was (i * 16) (min j count * 16) → w' ≡ filled f w (min j count * 16) (min (j + 1) count * 16)
    → ((k : ℕ) → j * 16 ≤ k → k < (j + 1) * 16 → f k ≡ rule k)
    → w' ≡ filled rule was (i * 16) (min (j + 1) count * 16)
row_written rule f was w w' i j count h g room e e' same =
    let a = min j count * 16 in
    let b = min (j + 1) count * 16 in
    e'
    ∙ ap (λ (x : List Float). filled f x a b) e
    ∙ filled_ext f rule (filled rule was (i * 16) a) a b (λ k p q. agrees k p q (lt_or_le j count))
    ∙ filled_join rule was (i * 16) a b (omega arith) (omega arith) nan (omega arith)
  where
    agrees : (k : ℕ) → min j count * 16 ≤ k → k < min (j + 1) count * 16 → (j < count) ⊎ (count ≤ j) → f k ≡ rule k
    agrees k p q (inl l) = same k (omega arith) (omega arith)
    agrees k p q (inr l) = absurd (omega arith)

-- none yet
pub none_written : (rule : ℕ → Float) (was : List Float) (i count : ℕ) → i ≤ count → was ≡ filled rule was (i * 16) (min i count * 16)
none_written rule was i count h =
    let e : min i count ≡ i = omega arith in
    rw e (sym (filled_none rule was (i * 16)))

-- ---- nothing is refused

pub ready_of : (m : List Float) (rows : ℕ) (samples : List Float) (grid : FeatureGrid) (features : List Float)
    → features_number m rows samples grid (length features) ≡ 0 → FeaturesReady m rows samples grid features
unfolding features_number
ready_of m rows samples grid features h =
    let p = lowest-zero (feature_bounds rows (length samples) grid) (eqb (length m) (rows * bin_count)) (leb (grid.count * 16) (length features))
    (every strength_fine m && every sample_fine samples) h in
    let t = told rows (length samples) grid p.bounds in
    record {
      rows_fine = t.rows_fine;
      rate_some = t.rate_some;
      rate_fine = t.rate_fine;
      length_some = t.length_some;
      length_fine = t.length_fine;
      count_fine = t.count_fine;
      whole = eqb-true (length m) (rows * bin_count) p.lengths;
      strengths = and_left (every strength_fine m) (every sample_fine samples) p.values;
      levels = and_right (every strength_fine m) (every sample_fine samples) p.values;
      room = leb-true (grid.count * 16) (length features) p.room;
    }

pub bounds_of : (m : List Float) (rows : ℕ) (samples : List Float) (grid : FeatureGrid) (features : List Float)
    → features_number m rows samples grid (length features) ≡ 0 → feature_bounds rows (length samples) grid ≡ true
unfolding features_number
bounds_of m rows samples grid features h =
    (lowest-zero (feature_bounds rows (length samples) grid) (eqb (length m) (rows * bin_count)) (leb (grid.count * 16) (length features))
    (every strength_fine m && every sample_fine samples) h).bounds
