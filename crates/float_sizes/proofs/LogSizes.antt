-- How large a logarithm is: for every finite value above 0, log is at most 1,024 in size and log2 at most 4,096. After the reduction
-- |f| is at most 1 and |k| at most 1,077, and the terms of the sequence add up. Assumes nothing.
use mathlib.Core.Path.{◌≡◌, refl, sym, ap, ◌∙◌, subst}
use mathlib.Core.Logic.{◌⊎◌, inl, inr}
use mathlib.Core.Bool.{Bool, true, false, not}
use Prim.Native.Nat.{ℕ, ◌+◌, ◌-◌, ◌*◌, ◌/◌, ◌%◌, ◌^◌, ◌≤◌, ◌<◌}
use native.Mathlib.Nat.{le_of_eq, mul_comm}
use native.Mathlib.Omega.{arith}
use lib.Dec.{T, eqb, lit<, lit≤}
use lib.IntN.{pos}
use lib.Ieee.{Float, binary64, lt, fits, to_bits, of_bits}
use lib.Ieee.Bits.{of_bits-fits, of_bits-to_bits, to_bits-lt}
use lib.Ieee.Fits.{sub-fits, mul-fits, div-fits}
use borrow.Author.Tests.{lt-ltb, eqb-true}
use lib.Ieee.Exact.{HasValue}
use lib.Ieee.Scale.{finite}
use Rattle.numbers.specs.Rounded.{◌⊕◌, ◌⊗◌, ◌⊘◌, bits, real, nought, pick, one, half}
use Rattle.sizes.specs.Sizes.{AtMost, is_plus, Plus}
use Rattle.numbers.proofs.Tests.{lt_or_le, true_not_false}
use Rattle.sizes.proofs.Numbers.{held_short, held_part}
use Rattle.sizes.proofs.Sizes.{real-most, nought-most, most-finite, div_most}
use Rattle.sizes.proofs.Least.{real-least, least_above, div-least}
use Rattle.sizes.proofs.Signs.{real_plus, mul_plus, div_plus, above_plus}
use Rattle.sizes.proofs.Order.{lt_self}
use Rattle.floats.specs.Logs.{
  two,
  bias,
  bias_after_54,
  Lg1,
  Lg2,
  Lg3,
  Lg4,
  Lg5,
  Lg6,
  Lg7,
  ln2hi,
  ln2lo,
  ivln2hi,
  ivln2lo,
  high_word,
  power_of,
  rest_of,
  half_square,
  series_of,
  log_from,
  upper_half,
  log2_from,
  x1p54,
  is_subnormal,
  scaled_bits,
  bias_of,
  in_sequence,
  apart_of,
  log_of,
  log2_of,
}
use Rattle.float_sizes.specs.Fractions.{Under}
use Rattle.float_sizes.proofs.Fractions.{under-most, most-under, under_weaken, add-under, sub-under, mul-under, div-under, left_least, near_under}
use Rattle.float_sizes.proofs.BitOrder.{plain, bits_back, bits_upper, under-bits, bits-same, finite-bits, plus_bits}

-- 1 in units
abbrev U : ℕ
U = 2 ^ 20

-- ---- f

module _ (u : ℕ) where
  abbrev mantissa : ℕ
  mantissa = (high_word u % 0x10_0000 + 0x3FE6_A09E) * 0x1_0000_0000 + u % 0x1_0000_0000

  mantissa_lt : mantissa < 0x4000_0000_0000_0000
  mantissa_lt = omega arith

  mantissa_plus : Plus (bits mantissa)
  mantissa_plus = let p = plain mantissa (omega (arith, mantissa_lt)) in record {
    sign = subst (λ (y : Float). T (is_plus y)) (sym p.2)
        (unfold is_plus in tt);
  }

  mantissa_under : Under (2 * U) (bits mantissa)
  mantissa_under =
      bits_upper 0x4000_0000_0000_0000 1 (pos 1) (unfold of_bits in refl) (lit< tt) (2 * U) (lit≤ tt) (of_bits-fits binary64 mantissa)
      (omega (arith, mantissa_lt, bits_back mantissa (omega (arith, mantissa_lt))))

  rest_under : Under U (rest_of u)
  unfolding rest_of
  rest_under = near_under 1 1 one (lit≤ tt) (lit< tt) mantissa_plus mantissa_under (unfold of_bits in (refl, refl))

-- ---- what both make of f

-- times what is at most 1
times : {q : ℕ} {x y : Float} → q < 2 ^ 53 → Under U x → Under q y → Under q (x ⊗ y)
times {q} l h k = mul-under q l (le_of_eq (mul_comm U q)) h k

-- the constants of the sequence
pub record Constants : Type 0 where
  pub lg1 : Under U Lg1
  pub lg2 : Under U Lg2
  pub lg3 : Under U Lg3
  pub lg4 : Under U Lg4
  pub lg5 : Under U Lg5
  pub lg6 : Under U Lg6
  pub lg7 : Under U Lg7
  pub halved : Under U half
  pub ln2hi-under : Under 726818 ln2hi
  pub ln2lo-under : Under 1 ln2lo
  pub ivln2hi-under : Under (2 * U) ivln2hi
  pub ivln2lo-under : Under 1 ivln2lo

constants : Constants
unfolding of_bits
constants =
    record {
      lg1 = record { size = lit≤ tt };
      lg2 = record { size = lit≤ tt };
      lg3 = record { size = lit≤ tt };
      lg4 = record { size = lit≤ tt };
      lg5 = record { size = lit≤ tt };
      lg6 = record { size = lit≤ tt };
      lg7 = record { size = lit≤ tt };
      halved = record { size = lit≤ tt };
      ln2hi-under = record { size = lit≤ tt };
      ln2lo-under = record { size = lit≤ tt };
      ivln2hi-under = record { size = lit≤ tt };
      ivln2lo-under = record { size = lit≤ tt };
    }

two-value : HasValue two false 2 1
unfolding of_bits
two-value = (refl, refl)

module _ {f : Float} (h : Under U f) where
  square-under : Under U (half_square f)
  unfolding half_square
  square-under = times (lit< tt) (times (lit< tt) constants.halved h) h

  series_under : Under (8 * U) (series_of f)
  unfolding series_of
  series_under =
      let s : Under U (f ⊘ (two ⊕ f)) = div-under U (lit< tt) (lit< tt) (lit≤ tt) h (left_least 2 two U (lit< tt) (lit≤ tt) two-value h) in
      let z = times (lit< tt) s s in
      let w = times (lit< tt) z z in
      let t1 = times (lit< tt) w (add-under (lit< tt) constants.lg2
      (times (lit< tt) w (add-under (lit< tt) constants.lg4 (times (lit< tt) w constants.lg6)))) in
      let t2 = times (lit< tt) z (add-under (lit< tt) constants.lg1
      (times (lit< tt) w (add-under (lit< tt) constants.lg3
      (times (lit< tt) w (add-under (lit< tt) constants.lg5 (times (lit< tt) w constants.lg7)))))) in
      times (lit< tt) s (add-under (lit< tt) square-under (add-under (lit< tt) t2 t1))

-- ---- k

bias-value : HasValue bias false 1023 1
unfolding of_bits
bias-value = (refl, refl)

bias54_value : HasValue bias_after_54 false 1077 1
unfolding of_bits
bias54_value = (refl, refl)

power_near : (b u : ℕ) (c : Float) → b ≤ 1077 → 970 ≤ b → u ≤ 0x7FF0_0000_0000_0000 → HasValue c false b 1 → Under (1077 * U) (power_of u c)
unfolding power_of
power_near b u c h l k v =
    let q : high_word u / 0x10_0000 ≤ 2047 = omega arith in
    near_under b 1077 c h (lit< tt) (real_plus (high_word u / 0x10_0000))
    (under_weaken ((b + 1077) * U) (omega arith) (most-under (real-most {N = 2047} (high_word u / 0x10_0000) (omega arith) q))) v

-- ---- the natural logarithm

log_from_lem : {k f : Float} → Under (1077 * U) k → Under U f → AtMost 1024 (log_from k f)
unfolding log_from
log_from_lem k f =
    under-most 1024 (lit≤ tt)
    (add-under (lit< tt)
    (add-under (lit< tt)
    (sub-under (lit< tt) (add-under (lit< tt) (series_under f) (mul-under 1077 (lit< tt) (lit≤ tt) k constants.ln2lo-under)) (square-under f))
    f)
    (mul-under (1077 * 726818) (lit< tt) (lit≤ tt) k constants.ln2hi-under))

-- ---- the binary logarithm

-- cleared bits make no value larger
upper_under : {x : Float} → T (fits binary64 x) → Under (2 * U) x → Under (2 * U) (upper_half x)
unfolding upper_half
upper_under {x} f h =
    let b = to_bits binary64 x in
    let c = b - b % 0x1_0000_0000 in
    let l : b % 2 ^ 63 ≤ 0x4000_0000_0000_0000 = under-bits 0x4000_0000_0000_0000 1 (pos 1) (unfold of_bits in refl) (lit< tt) (2 * U) (lit≤ tt) f h in
    let k : c % 2 ^ 63 ≤ 0x4000_0000_0000_0000 = omega arith in
    let s : to_bits binary64 (bits c) ≡ c = bits-same c (omega (arith, to_bits-lt binary64 x f)) (omega arith) in
    bits_upper 0x4000_0000_0000_0000 1 (pos 1) (unfold of_bits in refl) (lit< tt) (2 * U) (lit≤ tt) (of_bits-fits binary64 c) (omega arith)

log2_from_lem : {k f : Float} → Under (1077 * U) k → Under U f → AtMost 4096 (log2_from k f)
unfolding log2_from
log2_from_lem {k} {f} kh fh =
    let hfsq = square-under fh in
    let hi = upper_under (sub-fits binary64 f (half_square f)) (sub-under (lit< tt) fh hfsq) in
    let lo = add-under (lit< tt) (sub-under (lit< tt) (sub-under (lit< tt) fh hi) hfsq) (series_under fh) in
    let val_hi = mul-under (4 * U) (lit< tt) (lit≤ tt) hi constants.ivln2hi-under in
    let val_lo = add-under (lit< tt) (mul-under 14 (lit< tt) (lit≤ tt) (add-under (lit< tt) lo hi) constants.ivln2lo-under)
    (mul-under (24 * U) (lit< tt) (lit≤ tt) lo constants.ivln2hi-under) in
    let w = add-under (lit< tt) kh val_hi in
    under-most 4096 (lit≤ tt) (add-under (lit< tt) (add-under (lit< tt) val_lo (add-under (lit< tt) (sub-under (lit< tt) kh w) val_hi)) w)

-- ---- every finite value above 0

module _ (x : Float) (f : T (fits binary64 x)) (h : T (finite x)) (a : lt nought x ≡ true) where
  abbrev n : ℕ
  n = to_bits binary64 x

  n_pos : 0 < n
  n_pos = go (lt_or_le 0 n)
    where
      go : (0 < n) ⊎ (n ≤ 0) → 0 < n
      go (inl l) = l
      go (inr l) =
          let z : n ≡ 0 = omega arith in
          let e : nought ≡ x = ap (of_bits binary64) (sym z) ∙ of_bits-to_bits binary64 x f in
          true_not_false (lt x x) (subst (λ (y : Float). lt y x ≡ true) e a) (lt_self x)

  n_lt : n < 0x7FF0_0000_0000_0000
  n_lt = omega (arith, finite-bits x f h, plus_bits f (above_plus x a))

  power_under : Under (1077 * U) (power_of (scaled_bits x n) (bias_of n))
  unfolding scaled_bits bias_of
  power_under = go (is_subnormal n)
    where
      go : (b : Bool) → Under (1077 * U) (power_of (pick b (to_bits binary64 (x ⊗ x1p54)) n) (pick b bias_after_54 bias))
      go true = power_near 1077 (to_bits binary64 (x ⊗ x1p54)) bias_after_54 (lit≤ tt) (lit≤ tt)
          (plus_bits (mul-fits binary64 x x1p54) (mul_plus binary64 h (unfold of_bits in tt) (above_plus x a)
          (record { sign = unfold of_bits is_plus in tt }))) bias54_value
      go false = power_near 1023 n bias (lit≤ tt) (lit≤ tt) (omega (arith, n_lt)) bias-value

  -- without the sequence only 1 is left
  apart-nought : in_sequence n ≡ false → apart_of x n ≡ nought
  unfolding in_sequence
  apart-nought e = go (eqb n 0x3FF0_0000_0000_0000) refl (rw (lt-ltb 0 n n_pos, lt-ltb n 0x7FF0_0000_0000_0000 n_lt) at e)
    where
      go : (b : Bool) → eqb n 0x3FF0_0000_0000_0000 ≡ b → not b ≡ false → apart_of x n ≡ nought
      go false e z = true_not_false true refl z
      go true e z = subst (λ (k : ℕ). apart_of x k ≡ nought) (sym (eqb-true n 0x3FF0_0000_0000_0000 e)) (unfold apart_of in refl)

  in_sequence_most : (N : ℕ) (y : Float) → AtMost N y → AtMost N (pick (in_sequence n) y (apart_of x n))
  in_sequence_most N y k = go (in_sequence n) refl
    where
      go : (b : Bool) → in_sequence n ≡ b → AtMost N (pick b y (apart_of x n))
      go true e = k
      go false e = subst (λ (z : Float). AtMost N z) (sym (apart-nought e)) nought-most

  pub log_most : AtMost 1024 (log_of x)
  unfolding log_of
  log_most = in_sequence_most 1024 (log_from (power_of (scaled_bits x n) (bias_of n)) (rest_of (scaled_bits x n)))
      (log_from_lem power_under (rest_under (scaled_bits x n)))

  pub log2_most : AtMost 4096 (log2_of x)
  unfolding log2_of
  log2_most = in_sequence_most 4096 (log2_from (power_of (scaled_bits x n) (bias_of n)) (rest_of (scaled_bits x n)))
      (log2_from_lem power_under (rest_under (scaled_bits x n)))

-- ---- the quotient of two whole numbers, as a beat's interval by the period

module _ (m n : ℕ) (m-pos : 1 ≤ m) (m-le : m ≤ 2 ^ 20) (n_pos : 1 ≤ n) (n-le : n ≤ 2 ^ 20) where
  ratio_most : AtMost (2 ^ 20) (real m ⊘ real n)
  ratio_most = div_most (lit< tt) (held_short (lit< tt)) (lit≤ tt) (real-most {N = 2 ^ 20} m (omega arith) m-le)
      (real-least {p = 1} {q = 1} n (omega arith) (omega arith))

  divisor_above : lt nought (real n) ≡ true
  divisor_above = least_above (lit< tt) (real_plus n) (real-least {p = 1} {q = 1} n (omega arith) (omega arith))

  ratio_above : lt nought (real m ⊘ real n) ≡ true
  ratio_above =
      least_above (lit< tt)
      (div_plus binary64 (real n) (most-finite (real-most {N = 2 ^ 20} m (omega arith) m-le)) (real_plus m) divisor_above)
      (div-least (lit< tt) (lit< tt) (held_part 20 (lit≤ tt)) (lit≤ tt) (real-least {p = 1} {q = 1} m (omega arith) (omega arith))
      (real-most {N = 2 ^ 20} n (omega arith) n-le))

  pub log_ratio_most : AtMost 1024 (log_of (real m ⊘ real n))
  log_ratio_most = log_most (real m ⊘ real n) (div-fits binary64 (real m) (real n)) (most-finite ratio_most) ratio_above
