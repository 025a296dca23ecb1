-- Samples over length, rounded up, by a quotient and a remainder; and what number 0 says of the inputs.
use mathlib.Core.Path.{◌≡◌, sym}
use Prim.Native.Nat.{ℕ, ◌+◌, ◌-◌, ◌*◌, ◌/◌, ◌%◌, ◌≤◌, ◌<◌}
use native.Mathlib.Nat.{add-mul, one-mul, mul-one, mul-le-mul_left, div-add-mod', mod-lt, div-lt_iff_lt-mul, le-div_iff_mul-le}
use native.Mathlib.Omega.{arith}
use mathlib.Core.Bool.{Bool, true, ◌&&◌}
use lib.Dec.{leb}
use borrow.Author.Tests.{leb-true, eqb-true}
use Rattle.numbers.specs.Limits.{most_rate, most_rows, most_length, most_features}
use Rattle.numbers.proofs.Tests.{and_left, and_right}
use Rattle.floats.specs.Wholes.{ceiling_over}
use Rattle.sections.specs.Boundaries.{grid_fine}
use Rattle.feature_places.specs.declared.FeatureGrid.{FeatureGrid}
use Rattle.feature_refusal.specs.Refusal.{feature_bounds}

div_is : (n d k : ℕ) → 0 < d → k * d ≤ n → n < (k + 1) * d → n / d ≡ k
div_is n d k p lo hi =
    let a : n / d < k + 1 = (div-lt_iff_lt-mul p).1 hi in
    let b : k ≤ n / d = (le-div_iff_mul-le p).1 lo in
    omega arith

one_more : (k d : ℕ) → (k + 1) * d ≡ k * d + d
one_more k d = rw (add-mul, one-mul)

module _ (a d : ℕ) (p : 0 < d) where
  pub count-up : 0 < a % d → a / d + 1 ≡ ceiling_over a d
  count-up h =
      let e : a / d * d + a % d ≡ a = div-add-mod' a d in
      let l : a % d < d = mod-lt a p in
      let one = one_more (a / d) d in
      let two = one_more (a / d + 1) d in
      sym (div_is (a + d - 1) d (a / d + 1) p (omega arith) (omega arith))

  pub count_even : a % d ≤ 0 → a / d ≡ ceiling_over a d
  count_even h =
      let e : a / d * d + a % d ≡ a = div-add-mod' a d in
      let one = one_more (a / d) d in
      sym (div_is (a + d - 1) d (a / d) p (omega arith) (omega arith))

  -- one more than the quotient is no more than the samples
  pub count_under : 0 < a % d → a / d + 1 ≤ a
  count_under h =
      let e : a / d * d + a % d ≡ a = div-add-mod' a d in
      let m : a / d * 1 ≤ a / d * d = mul-le-mul_left (a / d) p in
      let o = mul-one (a / d) in
      omega arith

-- ---- what number 1 looked at

pub record BoundsTold (rows : ℕ) (grid : FeatureGrid) : Type 0 where
  pub rows_fine : rows ≤ most_rows
  pub rate_some : 1 ≤ grid.rate
  pub rate_fine : grid.rate ≤ most_rate
  pub length_some : 1 ≤ grid.length
  pub length_fine : grid.length ≤ most_length
  pub count_fine : grid.count ≤ most_features

pub told : (rows samples : ℕ) (grid : FeatureGrid) → feature_bounds rows samples grid ≡ true → BoundsTold rows grid
unfolding feature_bounds
told rows samples grid h =
    let l = grid.length in
    let r = grid.rate in
    let a = and_right (leb rows most_rows) _ h in
    let g : grid_fine l r ≡ true = and_left (grid_fine l r) _ a in
    let lengths = and_left (leb 1 l && leb l most_length) _ g in
    let rates = and_right (leb 1 l && leb l most_length) _ g in
    let n = and_left (leb grid.count most_features) _ (and_right (grid_fine l r) _ a) in
    record {
      rows_fine = leb-true rows most_rows (and_left (leb rows most_rows) _ h);
      rate_some = leb-true 1 r (and_left (leb 1 r) (leb r most_rate) rates);
      rate_fine = leb-true r most_rate (and_right (leb 1 r) (leb r most_rate) rates);
      length_some = leb-true 1 l (and_left (leb 1 l) (leb l most_length) lengths);
      length_fine = leb-true l most_length (and_right (leb 1 l) (leb l most_length) lengths);
      count_fine = leb-true grid.count most_features n;
    }

-- the last test decides where those before it hold
pub last_decides : (rows some most rate few : Bool) (last : Bool) → rows ≡ true → some ≡ true → most ≡ true → rate ≡ true → few ≡ true
    → last ≡ (rows && (((some && most) && rate) && (few && last)))
last_decides rows some most rate few last a b c d e = rw (a, b, c, d, e)

-- each feature row has a sample
pub row-some : (rows samples : ℕ) (grid : FeatureGrid) → feature_bounds rows samples grid ≡ true → (i : ℕ) → i < grid.count → i * grid.length < samples
unfolding feature_bounds
row-some rows samples grid h i k =
    let l = grid.length in
    let t = told rows samples grid h in
    let a = and_right (grid_fine l grid.rate) _ (and_right (leb rows most_rows) _ h) in
    let e : grid.count ≡ ceiling_over samples l = eqb-true _ _ (and_right (leb grid.count most_features) _ a) in
    let p : 0 < l = t.length_some in
    let q : i + 1 ≤ (samples + l - 1) / l = omega arith in
    let m : (i + 1) * l ≤ samples + l - 1 = (le-div_iff_mul-le p).0 q in
    let o = one_more i l in
    omega arith
