-- Every value of the feature rows is finite and within 2^150, so that `similarity` never refuses them with number 4 (`features-fine`); pitch classes and band
-- fractions lie within 0 to 1 (`feature_part`). Sums of magnitudes that are not negative have the sign plus, none is above the greatest or the total that it
-- is divided by, and the root of a mean of squares of binary32 values is within 2^144.
use mathlib.Core.Path.{◌≡◌, refl, sym, ap, subst, ◌∙◌}
use mathlib.Core.Bool.{Bool, true, false, cond}
use mathlib.Core.List.{List, map}
use mathlib.Core.Logic.{◌⊎◌, inl, inr}
use Prim.Native.Nat.{ℕ, zero, suc, ◌-◌, ◌*◌, ◌/◌, ◌%◌, ◌^◌, ◌≤◌, ◌<◌, min}
use native.Mathlib.Nat.{le_trans, le_of_eq, mul-le-mul, zero-lt-suc, not-suc-le-zero, mul-pos, min-le_left}
use native.Mathlib.Omega.{arith}
use lib.Dec.{T, eqb, lit≤, lit<, ltb→lt}
use borrow.Author.Tests.{eqb-true, lt-ltb, le-ltb}
use lib.IntN.{pos}
use lib.ListN.{length, get_or, drop, length-take, length-drop, length-map}
use lib.Pow.{pow-add}
use lib.Ieee.{Float, nan, inf, fin, binary64, up, down, unlike, round, div, lt, le, fits, of_bits}
use lib.Ieee.Fits.{add-fits, div-fits, down_pos}
use lib.Ieee.Exact.{HasValue}
use lib.Ieee.Scale.{finite}
use Rattle.numbers.specs.Rounded.{◌⊕◌, ◌⊘◌, real, nought, one, pick, sum_of, squared}
use Rattle.numbers.specs.Limits.{value_fine, feature_width}
use Rattle.numbers.specs.Lists.{every, tab, curve, row}
use Rattle.numbers.proofs.Tests.{lt_or_le, by_pick}
use Rattle.numbers.proofs.Everys.{every-tab}
use Rattle.numbers.proofs.Tabs.{length-tab, get_or-curve}
use Rattle.numbers.proofs.Overs.{every-row}
use Rattle.sizes.specs.Sizes.{AtMost, Within, AtLeast, Plus, is_plus, Each, none, more}
use Rattle.sizes.proofs.Numbers.{held_short, held_power}
use Rattle.sizes.proofs.Rounds.{round_most}
use Rattle.sizes.proofs.Sizes.{most-finite, most_weaken, within_weaken, nought-most, add-within, mul-within, div_most, value-most, pick-most}
use Rattle.sizes.proofs.Signed.{test→signed}
use Rattle.sizes.proofs.Signs.{add_plus, nought-is, nought_plus, plus_from_nought, square_plus, div_plus, pick_plus, plus_not_nan, real_plus, sum_plus}
use Rattle.sizes.proofs.Order.{true→T, le_self, le_then_le, lt_is_le, not_lt}
use Rattle.sizes.proofs.Ranges.{between-most}
use Rattle.sizes.proofs.Least.{real-least, least_above}
use Rattle.sizes.proofs.Lists.{every_each, each_image}
use Rattle.sizes.proofs.Sums.{sum-within}
use Rattle.sizes.proofs.Monotone.{add_swap}
use Rattle.sizes.proofs.Exact.{add_grows}
use Rattle.sizes.proofs.Tests.{most_le, within-value}
use Rattle.roots.proofs.Roots.{sqrt_within_plus}
use Rattle.feature_bins.specs.Bins.{in_class, in_band}
use Rattle.feature_lanes.specs.Addends.{strength_fine, itself, gathered}
use Rattle.feature_lanes.proofs.Strengths.{strength_within, strength_from, strength_not_nan}
use Rattle.feature_sums.proofs.Signs.{From, sum_of_from, sum_fits}
use Rattle.feature_sums.proofs.Gathered.{gathered_each, gathered-length}
use Rattle.feature_levels.specs.Levels.{sample_fine, rms_of, rms_at}
use Rattle.feature_levels.proofs.Samples.{sample_within, sample_not_nan}
use Rattle.feature_places.specs.declared.FeatureGrid.{FeatureGrid}
use Rattle.feature_parts.specs.Parts.{greatest_of, part_of, value_from}
use Rattle.sections.specs.Confidence.{greatest_from}
use Rattle.feature_refusal.specs.Refusal.{features_number}
use Rattle.feature_refusal.proofs.Counts.{row-some}
use Rattle.features.specs.Features.{belongs_to, chroma_at, band_at, feature_of, feature_at}
use Rattle.features.specs.Groups.{FeaturesReady}
use Rattle.features.proofs.Groups.{ready_of, bounds_of}

-- ---- a part of a whole is at most 1

quotient_most : (x w : Float) → T (is_plus x) → T (le x w) → T (lt (fin false 0 (pos 0)) w) → T (finite w) → AtMost 1 (div binary64 x w)
unfolding div le lt is_plus
quotient_most nan w p h k f = absurd p
quotient_most (inf true) w p h k f = absurd p
quotient_most (inf false) nan p h k f = absurd f
quotient_most (inf false) (inf t) p h k f = absurd f
quotient_most (inf false) (fin t n d) p h k f = absurd h
quotient_most (fin true m e) w p h k f = absurd p
quotient_most (fin false m e) nan p h k f = absurd f
quotient_most (fin false m e) (inf t) p h k f = absurd f
quotient_most (fin false m e) (fin true n d) p h k f = absurd k
quotient_most (fin false m e) (fin false n d) p h k f = go (eqb n 0) refl
  where
    above : 0 * 1 * down d < n * up d * 1
    above = ltb→lt (0 * 1 * down d) (n * up d * 1) k

    some : 0 < n * up d
    some = omega (arith, above)

    go : (b : Bool) → eqb n 0 ≡ b
        → AtMost 1 (cond b (cond (eqb m 0) nan (inf (unlike false false))) (round binary64 (unlike false false) (m * up e * down d) (n * up d * down e)))
    go true z = absurd (gone n (eqb-true n 0 z) (up d) some)
      where
        gone : (n : ℕ) → n ≡ 0 → (u : ℕ) → 0 < n * u → ⊥
        gone zero z u h = omega arith
        gone (suc n) z u h = omega arith
    go false z =
        round_most {f = binary64} {N = 1} (unlike false false) (m * up e * down d) (n * up d * down e) (mul-pos some (down_pos e))
        (held_short {f = binary64} {N = 1} (lit< tt))
        (omega (arith, test→signed false (m * up e * down d) false (n * up d * down e) h))

one_value : HasValue one false 1 1
unfolding of_bits
one_value = (refl, refl)

one-most : AtMost 1 one
one-most = value-most false 1 1 (zero-lt-suc 0) one_value (lit≤ tt)

-- within 0 to 1
pub record Part (x : Float) : Type 0 where
  pub from : le nought x ≡ true
  pub to : le x one ≡ true

nought_part : Part nought
nought_part = record { from = plus_from_nought nought_plus; to = most_le one one_value nought-most }

part_is : (x w : Float) → Plus x → le x w ≡ true → T (finite x) → T (finite w) → Part (part_of x w)
unfolding part_of
part_is x w p h f g = by_pick Part (lt nought w) (x ⊘ w) nought some (λ e. nought_part)
  where
    some : lt nought w ≡ true → Part (x ⊘ w)
    some e =
        record {
          from = plus_from_nought (div_plus binary64 w f p e);
          to = most_le one one_value
              (quotient_most x w p.sign (true→T (le x w) h) (subst (λ (z : Float). T (lt z w)) nought-is (true→T (lt nought w) e)) g);
        }

-- ---- the greatest of values that are no less than +0

greatest_plus : (top : Float) {xs : List Float} → Plus top → Each Plus xs → Plus (greatest_from top xs)
unfolding greatest_from
greatest_plus top h none = h
greatest_plus top h (more {x = x} {xs = xs} a k) = greatest_plus (pick (lt top x) x top) (pick_plus (lt top x) a h) k

greatest-within : (n : ℕ) (top : Float) {xs : List Float} → Within n top → Each (Within n) xs → Within n (greatest_from top xs)
unfolding greatest_from
greatest-within n top h none = h
greatest-within n top h (more {x = x} {xs = xs} a k) = greatest-within n (pick (lt top x) x top) (pick-most (lt top x) a h) k

-- the higher of two is no less than either
higher_left : (top x : Float) → Plus top → Plus x → le top (pick (lt top x) x top) ≡ true
higher_left top x p q =
    by_pick (λ (y : Float). le top y ≡ true) (lt top x) x top (λ e. lt_is_le top x e) (λ e. le_self top (plus_not_nan p))

higher_right : (top x : Float) → Plus top → Plus x → le x (pick (lt top x) x top) ≡ true
higher_right top x p q =
    by_pick (λ (y : Float). le x y ≡ true) (lt top x) x top (λ e. le_self x (plus_not_nan q)) (λ e. not_lt top x (plus_not_nan p) (plus_not_nan q) e)

greatest_top : (top : Float) {xs : List Float} → Plus top → Each Plus xs → le top (greatest_from top xs) ≡ true
unfolding greatest_from
greatest_top top h none = le_self top (plus_not_nan h)
greatest_top top h (more {x = x} {xs = xs} a k) =
    le_then_le top (pick (lt top x) x top) (greatest_from (pick (lt top x) x top) xs) (higher_left top x h a)
    (greatest_top (pick (lt top x) x top) (pick_plus (lt top x) a h) k)

greatest_each : (top : Float) {xs : List Float} → Plus top → Each Plus xs → (p : ℕ) → p < length xs → le (get_or xs p nan) (greatest_from top xs) ≡ true
unfolding greatest_from
greatest_each top h none p b = absurd (not-suc-le-zero b)
greatest_each top h (more {x = x} {xs = xs} a k) zero b =
    le_then_le x (pick (lt top x) x top) (greatest_from (pick (lt top x) x top) xs) (higher_right top x h a)
    (greatest_top (pick (lt top x) x top) (pick_plus (lt top x) a h) k)
greatest_each top h (more {x = x} {xs = xs} a k) (suc p) b = greatest_each (pick (lt top x) x top) (pick_plus (lt top x) a h) k p (omega arith)

-- ---- sums

module _ (m : List Float) (rows : ℕ) (few : rows ≤ 2 ^ 20) (fine : every strength_fine m ≡ true) (grid : FeatureGrid) (i : ℕ) where
  count_most : (term : Float → Float) (bin : ℕ → Bool) → length (gathered term bin (belongs_to grid i) m 0 rows) ≤ 2 ^ 32
  count_most term bin =
      le_trans (gathered-length term bin (belongs_to grid i) m rows 0) (le_trans (mul-le-mul {m₂ = 2 ^ 12} few (lit≤ tt)) (le_of_eq (sym (pow-add 2 20 12))))

  chroma_plus : (p : ℕ) → Plus (chroma_at m rows grid i p)
  unfolding chroma_at
  chroma_plus p =
      sum_of_from (gathered_each itself (in_class grid.rate p) From (λ x h. record { from = strength_from x h }) (belongs_to grid i) m rows 0 fine)

  chroma_within : (p : ℕ) → Within 158 (chroma_at m rows grid i p)
  unfolding chroma_at
  chroma_within p =
      sum-within 32 126 (lit≤ tt) (lit≤ tt) (count_most itself (in_class grid.rate p))
      (gathered_each itself (in_class grid.rate p) (Within 126) strength_within (belongs_to grid i) m rows 0 fine)

  band_plus : (b : ℕ) → Plus (band_at m rows grid i b)
  unfolding band_at
  band_plus b =
      sum_of_from
      (gathered_each squared (in_band grid.rate b) From (λ x h. record { from = plus_from_nought (square_plus binary64 x (strength_not_nan x h)) })
      (belongs_to grid i) m rows 0 fine)

  band-within : (b : ℕ) → Within 284 (band_at m rows grid i b)
  unfolding band_at
  band-within b =
      sum-within 32 252 (lit≤ tt) (lit≤ tt) (count_most squared (in_band grid.rate b))
      (gathered_each squared (in_band grid.rate b) (Within 252) (λ x h. mul-within binary64 126 126 (lit≤ tt) (strength_within x h) (strength_within x h))
      (belongs_to grid i) m rows 0 fine)

  band-fits : (b : ℕ) → T (fits binary64 (band_at m rows grid i b))
  unfolding band_at
  band-fits b = sum_fits _

  -- ---- pitch classes over the greatest

  each_tab : (P : Float → Type 0) (f : ℕ → Float) → ((p : ℕ) → P (f p)) → (s n : ℕ) → Each P (tab f s n)
  each_tab P f h s zero = none
  each_tab P f h s (suc n) = more (h s) (each_tab P f h (suc s) n)

  class_part : (p : ℕ) → p < 12 → Part (part_of (chroma_at m rows grid i p) (greatest_of (curve (chroma_at m rows grid i) 12)))
  class_part p h =
      let xs = curve (chroma_at m rows grid i) 12 in
      let ps = each_tab Plus (chroma_at m rows grid i) chroma_plus 0 12 in
      let l : length xs ≡ 12 = length-tab (chroma_at m rows grid i) 0 12 in
      let e : get_or xs p nan ≡ chroma_at m rows grid i p = get_or-curve (chroma_at m rows grid i) 12 p nan h in
      part_is (chroma_at m rows grid i p) (greatest_of xs) (chroma_plus p)
      (subst (λ (x : Float). le x (greatest_of xs) ≡ true) e (greatest_each nought nought_plus ps p (omega arith)))
      (most-finite (chroma_within p))
      (most-finite (greatest-within 158 nought nought-most (each_tab (Within 158) (chroma_at m rows grid i) chroma_within 0 12)))

  -- ---- bands over their total

  pair_plus : Plus (band_at m rows grid i 0 ⊕ band_at m rows grid i 1)
  pair_plus = add_plus binary64 (band_plus 0) (band_plus 1)

  pair_up : le (band_at m rows grid i 0 ⊕ band_at m rows grid i 1) (band_at m rows grid i 0 ⊕ band_at m rows grid i 1 ⊕ band_at m rows grid i 2) ≡ true
  pair_up = add_grows binary64 (add-fits binary64 (band_at m rows grid i 0) (band_at m rows grid i 1)) pair_plus (band_plus 2)

  under-total : (b : ℕ) → b < 3 → le (band_at m rows grid i b) (band_at m rows grid i 0 ⊕ band_at m rows grid i 1 ⊕ band_at m rows grid i 2) ≡ true
  under-total zero h = le_then_le _ (band_at m rows grid i 0 ⊕ band_at m rows grid i 1) _ (add_grows binary64 (band-fits 0) (band_plus 0) (band_plus 1)) pair_up
  under-total (suc zero) h =
      le_then_le _ (band_at m rows grid i 0 ⊕ band_at m rows grid i 1) _
      (subst (λ (x : Float). le (band_at m rows grid i 1) x ≡ true) (add_swap binary64 (band_at m rows grid i 1) (band_at m rows grid i 0))
      (add_grows binary64 (band-fits 1) (band_plus 1) (band_plus 0))) pair_up
  under-total (suc (suc zero)) h =
      subst (λ (x : Float). le (band_at m rows grid i 2) x ≡ true)
      (add_swap binary64 (band_at m rows grid i 2) (band_at m rows grid i 0 ⊕ band_at m rows grid i 1))
      (add_grows binary64 (band-fits 2) (band_plus 2) pair_plus)
  under-total (suc (suc (suc b))) h = absurd (omega arith)

  total-within : Within 286 (band_at m rows grid i 0 ⊕ band_at m rows grid i 1 ⊕ band_at m rows grid i 2)
  total-within =
      add-within binary64 285 (lit≤ tt) (add-within binary64 284 (lit≤ tt) (band-within 0) (band-within 1)) (within_weaken 284 285 (lit≤ tt) (band-within 2))

  band_part : (b : ℕ) → b < 3 → Part (part_of (band_at m rows grid i b) (band_at m rows grid i 0 ⊕ band_at m rows grid i 1 ⊕ band_at m rows grid i 2))
  band_part b h = part_is _ _ (band_plus b) (under-total b h) (most-finite (band-within b)) (most-finite total-within)

-- ---- the root mean square

module _ (samples : List Float) (fine : every sample_fine samples ≡ true) (size i : ℕ) (most : size ≤ 2 ^ 31) (some : i * size < length samples) where
  part_length : length (row samples size i) ≡ min size (length samples - i * size)
  unfolding row
  part_length = length-take size (drop (i * size) samples) ∙ ap (min size) (length-drop (i * size) samples)

  squares_within : Each (Within 256) (map squared (row samples size i))
  squares_within =
      each_image squared (λ x h. mul-within binary64 128 128 (lit≤ tt) (sample_within x h) (sample_within x h))
      (every_each sample_fine (λ (x : Float). sample_fine x ≡ true) (λ x h. h) (row samples size i) (every-row sample_fine samples size i fine))

  squares_plus : Each Plus (map squared (row samples size i))
  squares_plus =
      each_image squared (λ x h. square_plus binary64 x (sample_not_nan x h))
      (every_each sample_fine (λ (x : Float). sample_fine x ≡ true) (λ x h. h) (row samples size i) (every-row sample_fine samples size i fine))

  level_within : 1 ≤ size → Within 144 (rms_at samples size i)
  unfolding rms_at rms_of
  level_within h =
      let n = length (row samples size i) in
      let l : n ≤ 2 ^ 31 = le_trans (le_trans (le_of_eq part_length) (min-le_left size (length samples - i * size))) most in
      let k : 1 ≤ n = omega (arith, part_length) in
      let s : Within 287 (sum_of (map squared (row samples size i))) =
      sum-within 31 256 (lit≤ tt) (lit≤ tt) (le_trans (le_of_eq (length-map (row samples size i) squared)) l) squares_within in
      let f = le_trans l (lit≤ tt) in
      let a : AtLeast 1 1 (real n) = real-least n f (omega arith) in
      let q : Within 288 (sum_of (map squared (row samples size i)) ⊘ real n) =
      within_weaken 287 288 (lit≤ tt) (div_most (zero-lt-suc 0) (held_power 287 (lit≤ tt)) (le_of_eq refl) s a) in
      let p = div_plus binary64 (real n) (most-finite s) (sum_plus squares_plus) (least_above (zero-lt-suc 0) (real_plus n) a) in
      sqrt_within_plus 144 (div-fits binary64 (sum_of (map squared (row samples size i))) (real n)) p q

-- ---- every value

module _ (m : List Float) (rows : ℕ) (samples : List Float) (grid : FeatureGrid) (was : List Float)
    (passed : features_number m rows samples grid (length was) ≡ 0) where
  ready : FeaturesReady m rows samples grid was
  ready = ready_of m rows samples grid was passed

  -- a pitch class or a band fraction
  pub feature_part : (i j : ℕ) → j < 15 → Part (feature_of m rows samples grid i j)
  unfolding feature_of value_from
  feature_part i j h = go (lt_or_le j 12)
    where
      go : (j < 12) ⊎ (12 ≤ j) → Part (feature_of m rows samples grid i j)
      go (inl k) = rw (lt-ltb j 12 k) (class_part m rows ready.rows_fine ready.strengths grid i j k)
      go (inr k) = rw (le-ltb j 12 k, lt-ltb j 15 h) (band_part m rows ready.rows_fine ready.strengths grid i (j - 12) (omega arith))

  part_value : (x : Float) → Part x → value_fine x ≡ true
  part_value x p = within-value (most_weaken (lit≤ tt) (between-most x nought-most one-most p.from p.to))

  -- the RMS of a feature row that there is
  pub feature_level : (i j : ℕ) → 15 ≤ j → i < grid.count → Within 144 (feature_of m rows samples grid i j)
  unfolding feature_of value_from
  feature_level i j h k =
      let j₁ : 12 ≤ j = omega arith in
      rw (le-ltb j 12 j₁, le-ltb j 15 h)
      (level_within samples ready.levels grid.length i ready.length_fine (row-some rows (length samples) grid
      (bounds_of m rows samples grid was passed) i k)
      ready.length_some)

  pub feature_fine : (k : ℕ) → k < grid.count * 16 → value_fine (feature_at m rows samples grid k) ≡ true
  unfolding feature_at
  feature_fine k h = go (lt_or_le (k % 16) 15)
    where
      go : (k % 16 < 15) ⊎ (15 ≤ k % 16) → value_fine (feature_at m rows samples grid k) ≡ true
      go (inl l) = part_value _ (feature_part (k / 16) (k % 16) l)
      go (inr l) = within-value (within_weaken 144 150 (lit≤ tt) (feature_level (k / 16) (k % 16) l (omega arith)))

  -- all of them: number 4 of `similarity` and of a patch of features looks at no more
  pub features-fine : every value_fine (curve (feature_at m rows samples grid) (grid.count * feature_width)) ≡ true
  features-fine = every-tab value_fine (feature_at m rows samples grid) 0 (grid.count * 16) (λ k l h. feature_fine k (omega arith))
