-- How large exp is where x is at most 0: its sign is plus and it is at most 2. After the reduction |r| is at most 3/8, so that the
-- series stays small and 1 plus it is near 1; a power of two that is at most 1 then makes it no larger. Assumes nothing.
use mathlib.Core.Path.{◌≡◌, refl, sym, ap, ◌∙◌, subst}
use mathlib.Core.Logic.{◌⊎◌, inl, inr}
use mathlib.Core.Bool.{Bool, true, false, not, ◌&&◌, cond, true≢false}
use Prim.Native.Nat.{ℕ, zero, suc, ◌+◌, ◌-◌, ◌*◌, ◌/◌, ◌%◌, ◌^◌, ◌≤◌, ◌<◌, min}
use native.Mathlib.Nat.{
  zero-lt-suc,
  le_of_eq,
  le_of_lt,
  le_trans,
  mul_comm,
  mul_assoc,
  mul_left_comm,
  mul_right_comm,
  mul-mul-mul_comm,
  mul-lt-mul_of_pos_right,
  lt_of_lt_of_le,
  mul-pos,
  mul-one,
  add-mul,
  suc-mul,
  div-mul-le_self,
  div-add-mod',
  mod-lt,
  mul-le-mul_right,
  mul-le-mul_left,
  le_of_mul-le-mul_left,
  le_of_mul-le-mul_right,
}
use lib.Pow.{pow-add, pow_pos}
use native.Mathlib.Omega.{arith}
use lib.Dec.{T, ltb, leb, lit<, lit≤}
use lib.IntN.{ℤ, pos, negsuc}
use lib.Ieee.{Float, nan, inf, fin, binary64, up, down, unlike, neg, round, sum, add, sub, mul, lt, ne, fits, is_nan, to_bits, of_bits, to_unsigned}
use lib.Ieee.Fits.{up_pos, down_pos, mul-fits}
use lib.Ieee.Bits.{of_bits-fits, to_bits-lt}
use lib.Ieee.Exact.{HasValue}
use lib.Ieee.Scale.{finite, round_same}
use borrow.Author.Tests.{ltb-true, ltb-false, lt-ltb, leb-false, le-leb}
use Rattle.numbers.specs.Rounded.{◌⊕◌, ◌⊖◌, ◌⊗◌, real, nought, pick, one, half}
use Rattle.numbers.proofs.Tests.{lt_or_le, true_not_false}
use Rattle.sizes.specs.Sizes.{AtMost, AtLeast, size_up_to, size_from, is_plus, Plus, HeldAt}
use Rattle.sizes.proofs.Rounds.{round_neg, round_plus, round_least}
use Rattle.sizes.proofs.Order.{neg_neg}
use Rattle.sizes.proofs.Exact.{value_unique}
use Rattle.sizes.proofs.Signs.{mul_plus}
use Rattle.sizes.proofs.Numbers.{held_at_value}
use Rattle.sizes.proofs.Sizes.{most-finite, most_not_nan, real-value, real-most}
use Rattle.floats.specs.Logs.{two, ln2hi, ln2lo}
use Rattle.floats.specs.Exps.{
  invln2,
  P1,
  P2,
  P3,
  P4,
  P5,
  x1p1023,
  x1p_minus_969,
  overflow_above,
  zero_below_minus,
  power_at,
  times_down,
  scale_down,
  exp_near,
  exp_less,
  exp_by,
  folds_of,
  exp_sized,
  exp_of,
}
use Rattle.floats.proofs.Marks.{exp_zero}
use Rattle.floats.proofs.Patterns.{is_nan_lem}
use Rattle.floats.proofs.TotalOrder.{bits_fin}
use Rattle.float_sizes.specs.Fractions.{parts_up_to, Under}
use Rattle.float_sizes.proofs.Fractions.{
  held-parts,
  round_under,
  under-most,
  most-under,
  under_weaken,
  neg_under,
  add-under,
  sub-under,
  mul-under,
  div-under,
  left_least,
  left_plus,
}
use Rattle.float_sizes.proofs.BitOrder.{plain, bits_back, bits_upper, bits-lower}

-- 1 in units
abbrev U : ℕ
U = 2 ^ 20

-- ---- the series: not negative, and at most 2

pub record Near (y : Float) : Type 0 where
  pub plus : Plus y
  pub under : Under (2 * U) y

pub record Constants : Type 0 where
  pub p1 : Under 174763 P1
  pub p2 : Under 2913 P2
  pub p3 : Under 70 P3
  pub p4 : Under 2 P4
  pub p5 : Under 1 P5
  pub ones : Under U one

constants : Constants
unfolding of_bits
constants =
    record {
      p1 = record { size = lit≤ tt };
      p2 = record { size = lit≤ tt };
      p3 = record { size = lit≤ tt };
      p4 = record { size = lit≤ tt };
      p5 = record { size = lit≤ tt };
      ones = record { size = lit≤ tt };
    }

one_value : HasValue one false 1 1
unfolding of_bits
one_value = (refl, refl)

two-value : HasValue two false 2 1
unfolding of_bits
two-value = (refl, refl)

-- what is left of 2 after c
two_less : {c : Float} → Under 417850 c → AtLeast 1679302 (2 ^ 20) (two ⊖ c)
unfolding sub
two_less h = left_least 2 two 1679302 (lit< tt) (lit≤ tt) two-value (neg_under h)

-- |r| and |hi| at most 3/8
near_series : {r hi lo : Float} → Under 393216 r → Under 393216 hi → Under 1100 lo → Near (exp_near r hi lo)
unfolding exp_near
near_series {r} {hi} {lo} rh hih loh =
    let rr = mul-under 147456 (lit< tt) (lit≤ tt) rh rh in
    let t5 = add-under (lit< tt) constants.p4 (mul-under 1 (lit< tt) (lit≤ tt) rr constants.p5) in
    let t4 = add-under (lit< tt) constants.p3 (mul-under 1 (lit< tt) (lit≤ tt) rr t5) in
    let t3 = add-under (lit< tt) constants.p2 (mul-under 10 (lit< tt) (lit≤ tt) rr t4) in
    let t2 = add-under (lit< tt) constants.p1 (mul-under 412 (lit< tt) (lit≤ tt) rr t3) in
    let c = sub-under (lit< tt) rh (mul-under 24634 (lit< tt) (lit≤ tt) rr t2) in
    let q = div-under 97842 (lit< tt) (lit< tt) (lit≤ tt) (mul-under 156694 (lit< tt) (lit≤ tt) rh c) (two_less c) in
    let s = add-under (lit< tt) (sub-under (lit< tt) q loh) hih in
    record { plus = left_plus 1 one (lit≤ tt) one_value s; under = under_weaken (2 * U) (lit≤ tt) (add-under (lit< tt) constants.ones s) }

-- ---- the power of two: at most 1

near_finite : {y : Float} → Near y → T (finite y)
near_finite h = most-finite (under-most 2 (lit≤ tt) h.under)

-- times a factor that is not negative and at most 1
near_times : {y z : Float} → Near y → Plus z → Under U z → Near (y ⊗ z)
near_times h p u = record {
  plus = mul_plus binary64 (near_finite h) (most-finite (under-most 1 (lit≤ tt) u)) h.plus p;
  under = mul-under (2 * U)
      (lit< tt) (lit≤ tt) h.under u;
}

power_bits : (i : ℕ) → i ≤ 1023 → i * 0x10_0000_0000_0000 ≤ 0x3FF0_0000_0000_0000
power_bits i h = omega arith

power_plus : (i : ℕ) → i ≤ 1023 → Plus (power_at i)
power_plus i h = let p = plain (i * 0x10_0000_0000_0000) (omega (arith, power_bits i h)) in record {
  sign = subst (λ (y : Float). T (is_plus y))
      (sym p.2) (unfold is_plus in tt);
}

power_under : (i : ℕ) → i ≤ 1023 → Under U (power_at i)
power_under i h =
    bits_upper 0x3FF0_0000_0000_0000 1 (pos 0) (unfold of_bits in refl) (lit< tt) U (lit≤ tt) (of_bits-fits binary64 (i * 0x10_0000_0000_0000))
    (omega (arith, power_bits i h, bits_back (i * 0x10_0000_0000_0000) (omega (arith, power_bits i h))))

near_down : {y : Float} (n : ℕ) → Near y → Near (times_down y n)
unfolding times_down
near_down {y} n h = go (ltb 1022 n)
  where
    go : (b : Bool) → Near (y ⊗ pick b (power_at 1) (power_at (1023 - n)))
    go true = near_times h (power_plus 1 (lit≤ tt)) (power_under 1 (lit≤ tt))
    go false = near_times h (power_plus (1023 - n) (omega arith)) (power_under (1023 - n) (omega arith))

tiny_plus : Plus x1p_minus_969
unfolding mul of_bits is_plus
tiny_plus = record { sign = tt }

tiny_under : Under U x1p_minus_969
unfolding mul of_bits
tiny_under = record { size = lit≤ tt }

near_scaled : {y : Float} (n : ℕ) → Near y → Near (scale_down y n)
unfolding scale_down
near_scaled {y} n h = go (ltb 1022 n) (ltb 1022 (n - 969))
  where
    less : Near (y ⊗ x1p_minus_969)
    less = near_times h tiny_plus tiny_under

    go : (b c : Bool) → Near (pick b (pick c (times_down (y ⊗ x1p_minus_969 ⊗ x1p_minus_969) (n - 969 - 969)) (times_down (y ⊗ x1p_minus_969) (n - 969)))
        (times_down y n))
    go true true = near_down (n - 969 - 969) (near_times less tiny_plus tiny_under)
    go true false = near_down (n - 969) less
    go false c = near_down n h

-- ---- rounding told back. v is N / D, rounded: what v does not reach, N / D does not, and what v reaches, it does but for one unit

module _ (N D n : ℕ) (e : ℤ) (p : 0 < D) (is : round binary64 false N D ≡ fin false n e) where
  below-back : (C : ℕ) → C < 2 ^ 53 → n * up e * 2 ^ 20 < C * down e → N * 2 ^ 20 < C * D
  below-back C L l = go (lt_or_le (N * 2 ^ 20) (C * D))
    where
      go : (N * 2 ^ 20 < C * D) ⊎ (C * D ≤ N * 2 ^ 20) → N * 2 ^ 20 < C * D
      go (inl h) = h
      go (inr h) = absurd (omega (arith, l, subst (λ (v : Float). size_from C (2 ^ 20) v) is (round_least false N D p (pow_pos 20) (held-parts C L) h).size))

  above-back : (Q : ℕ) → Q < 2 ^ 53 → Q * down e ≤ n * up e * 2 ^ 20 → Q * D ≤ N * 2 ^ 20 + D
  above-back zero L l = omega arith
  above-back (suc q) L l = go (lt_or_le (N * 2 ^ 20) (q * D))
    where
      go : (N * 2 ^ 20 < q * D) ⊎ (q * D ≤ N * 2 ^ 20) → suc q * D ≤ N * 2 ^ 20 + D
      go (inr h) = omega (arith, suc-mul q D)
      go (inl h) = absurd (omega (
        arith,
        l,
        suc-mul q (down e),
        down_pos e,
        subst (λ (v : Float). parts_up_to q v) is
            (round_under {p = q} false N D p (omega arith) (le_of_lt h)).size,
      ))

-- ---- how often ln 2 is taken from a negative x of size a / d: K, with a / d between (K - 1/2) ln 2 and (K + 1/2) ln 2, nearly

shape : (p : ℕ) (v : Float) → T (is_plus v) → parts_up_to p v → (n : ℕ) × (e : ℤ) × (v ≡ fin false n e)
unfolding is_plus
shape p nan s h = absurd h
shape p (inf t) s h = absurd h
shape p (fin true n e) s h = absurd s
shape p (fin false n e) s h = (n, e, refl)

-- 1 / ln 2 is 3248660424278399 / 2 ^ 51
product_is : (m : ℕ) (e : ℤ) → invln2 ⊗ fin true m e ≡ neg (round binary64 false (3248660424278399 * 1 * (m * up e)) (2 ^ 51 * down e))
unfolding mul of_bits
product_is m e = round_neg binary64 (3248660424278399 * 1 * (m * up e)) (2 ^ 51 * down e)

shifted_is : (n : ℕ) (e : ℤ) → neg (neg (fin false n e) ⊕ neg half) ≡ round binary64 false (n * up e * 2 + 1 * 1 * down e) (down e * 2)
unfolding add sum neg of_bits
shifted_is n e = ap neg (round_neg binary64 (n * up e * 2 + 1 * 1 * down e) (down e * 2))
    ∙ neg_neg (round binary64 false (n * up e * 2 + 1 * 1 * down e) (down e * 2))

-- the size of x is a / d
pub record Folded (K a d : ℕ) : Type 0 where
  pub few : K ≤ 1077
  pub above : 3248660424278399 * a * 2 < 2 ^ 51 * (2 * (K * d) + d)
  pub below : 2 ^ 51 * (2 ^ 20 * (K * d)) ≤ 3248660424278399 * a * 2 ^ 20 + 2 ^ 51 * ((2 ^ 19 + 2) * d)

-- (K + 1) and K, and then (2 K + 1) / 2 and nearly (2 K - 1) / 2, in units, over a denominator
module _ (K B : ℕ) where
  next_whole : (K + 1) * 2 ^ 20 * (B * 2) ≡ 2 ^ 21 * (K * B) + 2 ^ 21 * B
  next_whole = ap (λ (z : ℕ). z * (B * 2)) (mul_comm (K + 1) (2 ^ 20)) ∙ mul_assoc (2 ^ 20) (K + 1) (B * 2)
      ∙ omega (arith, add-mul K 1 (B * 2), mul_assoc K B 2)

  this_whole : K * 2 ^ 20 * (B * 2) ≡ 2 ^ 21 * (K * B)
  this_whole = ap (λ (z : ℕ). z * (B * 2)) (mul_comm K (2 ^ 20)) ∙ mul_assoc (2 ^ 20) K (B * 2) ∙ omega (arith, mul_assoc K B 2)

  next_half : (2 * K + 1) * 2 ^ 19 * B ≡ 2 ^ 20 * (K * B) + 2 ^ 19 * B
  next_half = ap (λ (z : ℕ). z * B) (mul_comm (2 * K + 1) (2 ^ 19)) ∙ mul_assoc (2 ^ 19) (2 * K + 1) B ∙ omega (arith, add-mul (2 * K) 1 B, mul_assoc 2 K B)

  last-half : (Q : ℕ) → Q + (2 ^ 19 + 1) ≡ K * 2 ^ 20 → Q * B + (2 ^ 19 + 1) * B ≡ 2 ^ 20 * (K * B)
  last-half Q h = sym (add-mul Q (2 ^ 19 + 1) B) ∙ ap (λ (z : ℕ). z * B) (h ∙ mul_comm K (2 ^ 20)) ∙ mul_assoc (2 ^ 20) K B

-- the product of x and 1 / ln 2 is N / D, rounded to n / 2 ^ .. ; half more is rounded to a value of which K is the whole part
module _ (K N D n : ℕ) (e : ℤ) (p : 0 < D) (is : round binary64 false N D ≡ fin false n e) (k : ℕ) (g : ℤ)
    (is2 : round binary64 false (n * up e * 2 + 1 * 1 * down e) (down e * 2) ≡ fin false k g)
    (few : K ≤ 1077) (lo : K * down g ≤ k * up g) (hi : k * up g < (K + 1) * down g) where
  d2 : 0 < down e * 2
  d2 = omega (arith, down_pos e)

  folded_above : N * 2 ^ 20 < 2 ^ 20 * (K * D) + 2 ^ 19 * D
  folded_above =
      let a : (n * up e * 2 + 1 * 1 * down e) * 2 ^ 20 < (K + 1) * 2 ^ 20 * (down e * 2) =
      below-back (n * up e * 2 + 1 * 1 * down e) (down e * 2) k g d2 is2 ((K + 1) * 2 ^ 20) (omega arith)
      (omega (arith, hi, mul_right_comm (K + 1) (2 ^ 20) (down g))) in
      let b : n * up e * 2 ^ 20 < (2 * K + 1) * 2 ^ 19 * down e = omega (arith, next_whole K (down e), next_half K (down e)) in
      omega (arith, next_half K D, below-back N D n e p is ((2 * K + 1) * 2 ^ 19) (omega arith) b)

  folded_below : 2 ^ 20 * (K * D) ≤ N * 2 ^ 20 + (2 ^ 19 + 2) * D
  folded_below = go (lt_or_le 0 K)
    where
      a : K * 2 ^ 20 * (down e * 2) ≤ (n * up e * 2 + 1 * 1 * down e) * 2 ^ 20 + down e * 2
      a = above-back (n * up e * 2 + 1 * 1 * down e) (down e * 2) k g d2 is2 (K * 2 ^ 20) (omega arith) (omega (arith, lo, mul_right_comm K (2 ^ 20) (down g)))

      go : (0 < K) ⊎ (K ≤ 0) → 2 ^ 20 * (K * D) ≤ N * 2 ^ 20 + (2 ^ 19 + 2) * D
      go (inr z) = omega (arith, ap (λ (y : ℕ). y * D) (none K z))
        where
          none : (K : ℕ) → K ≤ 0 → K ≡ 0
          none K z = omega arith
      go (inl l) =
          let Q = K * 2 ^ 20 - (2 ^ 19 + 1) in
          let q : Q + (2 ^ 19 + 1) ≡ K * 2 ^ 20 = omega arith in
          let b : Q * down e ≤ n * up e * 2 ^ 20 = omega (arith, a, this_whole K (down e), last-half K (down e) Q q) in
          omega (arith, last-half K D Q q, above-back N D n e p is Q (omega arith) b)

whole_part : (n d : ℕ) → 0 < d → (n / d * d ≤ n) × (n < (n / d + 1) * d)
whole_part n d p = (div-mul-le_self n d, omega (arith, add-mul (n / d) 1 d, div-add-mod' n d, mod-lt n p))

-- the size of x is at most 746
module _ (m : ℕ) (e : ℤ) (small : m * up e ≤ 746 * down e) where
  abbrev N1 : ℕ
  N1 = 3248660424278399 * 1 * (m * up e)

  abbrev D1 : ℕ
  D1 = 2 ^ 51 * down e

  D1_pos : 0 < D1
  D1_pos = omega (arith, down_pos e)

  first_under : Under 1128530896 (round binary64 false N1 D1)
  first_under = round_under false N1 D1 D1_pos (lit< tt) (omega arith)

  second-under : (n : ℕ) (g : ℤ) → round binary64 false N1 D1 ≡ fin false n g
      → Under 1129055184 (round binary64 false (n * up g * 2 + 1 * 1 * down g) (down g * 2))
  second-under n g i =
      let h : n * up g * 2 ^ 20 ≤ 1128530896 * down g = subst (λ (v : Float). parts_up_to 1128530896 v) i first_under.size in
      round_under false (n * up g * 2 + 1 * 1 * down g) (down g * 2) (omega (arith, down_pos g)) (lit< tt) (omega arith)

  few-folds : (k : ℕ) (h : ℤ) → k * up h * 2 ^ 20 ≤ 1129055184 * down h → k * up h / down h ≤ 1076
  few-folds k h l =
      let q = k * up h / down h in
      let a : q * 2 ^ 20 * down h ≤ 1129055184 * down h = le_trans (le_of_eq (mul_right_comm q (2 ^ 20) (down h)))
      (le_trans (mul-le-mul_right (2 ^ 20) (whole_part (k * up h) (down h) (down_pos h)).0) l) in
      let b : q * 2 ^ 20 ≤ 1129055184 = le_of_mul-le-mul_right a (down_pos h) in
      omega arith

  folds_are : (n : ℕ) (g : ℤ) → round binary64 false N1 D1 ≡ fin false n g → (k : ℕ) (h : ℤ)
      → round binary64 false (n * up g * 2 + 1 * 1 * down g) (down g * 2) ≡ fin false k h → folds_of (fin true m e) true ≡ min (k * up h / down h) (2 ^ 64 - 1)
  unfolding folds_of to_unsigned
  folds_are n g i k h j = ap (λ (y : Float). to_unsigned 64 (neg (y ⊕ neg half))) (product_is m e ∙ ap neg i) ∙ ap (to_unsigned 64) (shifted_is n g ∙ j)

  folded_by : (n : ℕ) (g : ℤ) → round binary64 false N1 D1 ≡ fin false n g → (k : ℕ) (h : ℤ)
      → round binary64 false (n * up g * 2 + 1 * 1 * down g) (down g * 2) ≡ fin false k h → Folded (folds_of (fin true m e) true) (m * up e) (down e)
  folded_by n g i k h j =
      let q = k * up h / down h in
      let l : q ≤ 1076 = few-folds k h (subst (λ (v : Float). parts_up_to 1129055184 v) j (second-under n g i).size) in
      let K : folds_of (fin true m e) true ≡ q = folds_are n g i k h j ∙ omega arith in
      let w = whole_part (k * up h) (down h) (down_pos h) in
      let t = mul_left_comm q (2 ^ 51) (down e) in
      let a = folded_above q N1 D1 n g D1_pos i k h j (omega arith) w.0 w.1 in
      let b = folded_below q N1 D1 n g D1_pos i k h j (omega arith) w.0 w.1 in
      subst (λ (z : ℕ). Folded z (m * up e) (down e)) (sym K) (record { few = omega arith; above = omega arith; below = omega arith })

  folded : Folded (folds_of (fin true m e) true) (m * up e) (down e)
  folded =
      let s = shape 1128530896 (round binary64 false N1 D1) (round_plus binary64 N1 D1).sign first_under.size in
      let u = second-under s.0 s.1 s.2 in
      let t = shape 1129055184 (round binary64 false (s.0 * up s.1 * 2 + 1 * 1 * down s.1) (down s.1 * 2))
      (round_plus binary64 (s.0 * up s.1 * 2 + 1 * 1 * down s.1) (down s.1 * 2)).sign u.size in
      folded_by s.0 s.1 s.2 t.0 t.1 t.2

-- ---- x less K ln 2

-- the high part of ln 2 is 2977044471 / 2 ^ 32. K times it differs from a / d by at most 368,640 units, 0.36
pub record Reached (K a d : ℕ) : Type 0 where
  pub few : K ≤ 1077
  pub over : 2 ^ 32 * a ≤ K * 2977044471 * d + 1509949440 * d
  pub under : K * 2977044471 * d ≤ 2 ^ 32 * a + 1509949440 * d

-- the two sides times 3248660424278399. 9671406554254521907681929 is a little less than 2 ^ 83, and 4905312988389330974146560 more than 2 ^ 82
exchange : (a b c d e f : ℕ) → a ≡ b + c → d ≡ e + f → c ≤ f → a + e ≤ b + d
exchange a b c d e f h k l = omega arith

more : {a b : ℕ} (c : ℕ) → a ≤ b → c + a ≤ c + b
more {a} {b} c h = omega arith

over-scaled : (x k d : ℕ) → x * 2 < 2 ^ 51 * (2 * k + d) → k ≤ 1077 * d → 2 ^ 32 * x ≤ 9671406554254521907681929 * k + 4905312988389330974146560 * d
over-scaled x k d h l =
    let a : 2 ^ 31 * (x * 2) ≤ 2 ^ 31 * (2 ^ 51 * (2 * k + d)) = mul-le-mul_left (2 ^ 31) (le_of_lt h) in
    let b : 2662511489967479 * k ≤ 69609709930814275321856 * d =
    le_trans (mul-le-mul_left 2662511489967479 l) (le_trans (le_of_eq (sym (mul_assoc 2662511489967479 1077 d))) (mul-le-mul_right d (lit≤ tt))) in
    le_trans (plain_left x k d a) (exchange (2 ^ 83 * k) (9671406554254521907681929 * k) (2662511489967479 * k) (4905312988389330974146560 * d)
    (2 ^ 82 * d) (69609709930814275321856 * d) (add-mul 9671406554254521907681929 2662511489967479 k) (add-mul (2 ^ 82) 69609709930814275321856 d) b)
  where
    plain_left : (x k d : ℕ) → 2 ^ 31 * (x * 2) ≤ 2 ^ 31 * (2 ^ 51 * (2 * k + d)) → 2 ^ 32 * x ≤ 2 ^ 83 * k + 2 ^ 82 * d
    plain_left x k d a = omega arith

under-scaled : (x k d : ℕ) → 2 ^ 51 * (2 ^ 20 * k) ≤ x * 2 ^ 20 + 2 ^ 51 * ((2 ^ 19 + 2) * d)
    → 9671406554254521907681929 * k ≤ 2 ^ 32 * x + 4905312988389330974146560 * d
under-scaled x k d h =
    le_trans (mul-le-mul_right k (lit≤ tt))
    (le_trans (plain_left x k d h) (more (2 ^ 32 * x) (mul-le-mul_right d (lit≤ {m = 4835721725202590408376320} {n = 4905312988389330974146560} tt))))
  where
    plain_left : (x k d : ℕ) → 2 ^ 51 * (2 ^ 20 * k) ≤ x * 2 ^ 20 + 2 ^ 51 * ((2 ^ 19 + 2) * d) → 2 ^ 83 * k ≤ 2 ^ 32 * x + 4835721725202590408376320 * d
    plain_left x k d h = omega arith

reached : {K a d : ℕ} → Folded K a d → Reached K a d
reached {K} {a} {d} h =
    let t : K * 2977044471 * d ≡ 2977044471 * (K * d) = ap (λ (z : ℕ). z * d) (mul_comm K 2977044471) ∙ mul_assoc 2977044471 K d in
    let o = over-scaled (3248660424278399 * a) (K * d) d h.above (mul-le-mul_right d h.few) in
    let u = under-scaled (3248660424278399 * a) (K * d) d h.below in
    record {
      few = h.few;
      over = le_of_mul-le-mul_left (factor_o (K * d) (K * 2977044471 * d) t o) (lit< {m = 0} {n = 3248660424278399} tt);
      under = le_of_mul-le-mul_left (factor_u (K * d) (K * 2977044471 * d) t u) (lit< {m = 0} {n = 3248660424278399} tt);
    }
  where
    factor_o : (k w : ℕ) → w ≡ 2977044471 * k → 2 ^ 32 * (3248660424278399 * a) ≤ 9671406554254521907681929 * k + 4905312988389330974146560 * d
        → 3248660424278399 * (2 ^ 32 * a) ≤ 3248660424278399 * (w + 1509949440 * d)
    factor_o k w t h = omega arith

    factor_u : (k w : ℕ) → w ≡ 2977044471 * k → 9671406554254521907681929 * k ≤ 2 ^ 32 * (3248660424278399 * a) + 4905312988389330974146560 * d
        → 3248660424278399 * w ≤ 3248660424278399 * (2 ^ 32 * a + 1509949440 * d)
    factor_u k w t h = omega arith

held_product : (W : ℕ) → W < 2 ^ 53 → HeldAt binary64 W (2 ^ 32)
held_product W h =
    record {
      q = W;
      j = 1042;
      few = h;
      under = lt_of_lt_of_le (mul-lt-mul_of_pos_right h (pow_pos 1042)) (lit≤ tt);
      is = ap (λ (z : ℕ). W * z) (pow-add 2 1042 32) ∙ sym (mul_assoc W (2 ^ 1042) (2 ^ 32));
    }

-- K times the high part is exact
product_of : (K : ℕ) (r : Float) → K ≤ 1077 → HasValue r false K 1 → HasValue (neg r ⊗ ln2hi) true (K * 2977044471) (2 ^ 32)
unfolding neg mul of_bits
product_of K nan h v = absurd v
product_of K (inf s) h v = absurd v
product_of K (fin true k g) h v = absurd (true≢false v.0)
product_of K (fin false k g) h v =
    subst (λ (y : Float). HasValue y true (K * 2977044471) (2 ^ 32))
    (sym (round_same binary64 true (k * up g * (2977044471 * 1)) (down g * 2 ^ 32) (K * 2977044471) (2 ^ 32) (mul-pos (down_pos g) (pow_pos 32))
    (pow_pos 32) same))
    (held_at_value true (pow_pos 32) (held_product (K * 2977044471) (omega arith)))
  where
    same : k * up g * (2977044471 * 1) * 2 ^ 32 ≡ K * 2977044471 * (down g * 2 ^ 32)
    same =
        mul_assoc (k * up g) 2977044471 (2 ^ 32) ∙ ap (λ (z : ℕ). z * (2977044471 * 2 ^ 32)) (sym (mul-one (k * up g)) ∙ v.1)
        ∙ mul-mul-mul_comm K (down g) 2977044471 (2 ^ 32)

difference_of : (W m : ℕ) (e : ℤ) (w : Float) → HasValue w true W (2 ^ 32) → 2 ^ 32 * (m * up e) ≤ W * down e + 1509949440 * down e
    → W * down e ≤ 2 ^ 32 * (m * up e) + 1509949440 * down e → Under 368640 (sub binary64 (fin true m e) w)
unfolding sub add sum neg
difference_of W m e nan v o u = absurd v
difference_of W m e (inf s) v o u = absurd v
difference_of W m e (fin false n g) v o u = absurd (true≢false (sym v.0))
difference_of W m e (fin true n g) v o u = go (ltb A B) (ltb B A)
  where
    A : ℕ
    A = m * up e * down g

    B : ℕ
    B = n * up g * down e

    C : ℕ
    C = down e * down g

    C_pos : 0 < C
    C_pos = mul-pos (down_pos e) (down_pos g)

    b : B * 2 ^ 32 ≡ W * down e * down g
    b = mul_right_comm (n * up g) (down e) (2 ^ 32) ∙ ap (λ (z : ℕ). z * down e) v.1 ∙ mul_right_comm W (down g) (down e)

    o' : 2 ^ 32 * A ≤ W * down e * down g + 1509949440 * C
    o' = le_trans (le_of_eq (sym (mul_assoc (2 ^ 32) (m * up e) (down g))))
        (le_trans (mul-le-mul_right (down g) o) (le_of_eq (add-mul (W * down e) (1509949440 * down e) (down g)
        ∙ ap (λ (z : ℕ). W * down e * down g + z) (mul_assoc 1509949440 (down e) (down g)))))

    u' : W * down e * down g ≤ 2 ^ 32 * A + 1509949440 * C
    u' = le_trans (mul-le-mul_right (down g) u) (le_of_eq (add-mul (2 ^ 32 * (m * up e)) (1509949440 * down e) (down g)
        ∙ ap (λ (z : ℕ). z + 1509949440 * down e * down g) (mul_assoc (2 ^ 32) (m * up e) (down g))
        ∙ ap (λ (z : ℕ). 2 ^ 32 * A + z) (mul_assoc 1509949440 (down e) (down g))))

    go : (x y : Bool) → Under 368640 (cond x (round binary64 false (B - A) C) (round binary64 (true && y) (A - B) C))
    go true y = round_under false (B - A) C C_pos (lit< tt) (omega (arith, b, u'))
    go false y = round_under (true && y) (A - B) C C_pos (lit< tt) (omega (arith, b, o'))

ln2lo-under : Under 1 ln2lo
unfolding of_bits
ln2lo-under = record { size = lit≤ tt }

less_near : (m : ℕ) (e : ℤ) (K : ℕ) → Reached K (m * up e) (down e) → Near (exp_less (fin true m e) (neg (real K)))
unfolding exp_less
less_near m e K h =
    let hi = difference_of (K * 2977044471) m e (neg (real K) ⊗ ln2hi) (product_of K (real K) h.few (real-value K (omega (arith, h.few))))
    h.over h.under in
    let k : Under (1077 * U) (real K) = most-under (real-most {N = 1077} K (omega (arith, h.few)) h.few) in
    let lo = mul-under 1077 (lit< tt) (lit≤ tt) (neg_under k) ln2lo-under in
    near_series (under_weaken 393216 (lit≤ tt) (sub-under (lit< tt) hi lo)) (under_weaken 393216 (lit≤ tt) hi) (under_weaken 1100 (lit≤ tt) lo)

by_near : (m : ℕ) (e : ℤ) (K : ℕ) → Reached K (m * up e) (down e) → Near (exp_by (fin true m e) true K)
unfolding exp_by
by_near m e K h = near_scaled K (less_near m e K h)

-- ---- by the size of x. b has the bits of x without the sign

one_near : {x : Float} → Under 1 x → Near (one ⊕ x)
one_near h = record { plus = left_plus 1 one (lit≤ tt) one_value h; under = under_weaken (2 * U) (lit≤ tt) (add-under (lit< tt) constants.ones h) }

nought-under : Under 1100 nought
unfolding of_bits
nought-under = record { size = lit≤ tt }

module _ (m : ℕ) (e : ℤ) (f : T (fits binary64 (fin true m e))) (small : m * up e ≤ 746 * down e) where
  abbrev b : ℕ
  b = to_bits binary64 (fin true m e) % 2 ^ 63

  abbrev h : ℕ
  h = b / 2 ^ 32

  -- below 1.5 ln 2 and above 0.5 ln 2
  once : h < 0x3FF0_A2B2 → 0x3FD6_2E42 < h → Reached 1 (m * up e) (down e)
  once l g =
      let a : m * up e * 2 ^ 20 ≤ 1090226 * down e = (bits_upper 0x3FF0_A2B2_0000_0000 545113 (negsuc 18) (unfold of_bits in refl)
      (lit< tt) {x = fin true m e} 1090226 (lit≤ tt) f (omega arith)).size in
      let c : 363408 * down e ≤ 2 ^ 20 * (m * up e) = (bits-lower 0x3FD6_2E43_0000_0000 1453635 (negsuc 21) (unfold of_bits in refl)
      (lit< tt) {x = fin true m e} 363408 (2 ^ 20) (lit≤ tt) f (unfold is_nan in tt) (omega arith)).size in
      record { few = lit≤ tt; over = omega arith; under = omega arith }

  few_near : h ≤ 0x3FD6_2E42 → Near (exp_near (fin true m e) (fin true m e) nought)
  few_near l =
      let u = bits_upper 0x3FD6_2E43_0000_0000 1453635 (negsuc 21) (unfold of_bits in refl) (lit< tt) {x = fin true m e} 393216 (lit≤ tt) f (omega arith) in
      near_series u u nought-under

  least_near : h ≤ 0x3E30_0000 → Near (one ⊕ fin true m e)
  least_near l = one_near (bits_upper 0x3E30_0001_0000_0000 1048577 (negsuc 47) (unfold of_bits in refl) (lit< tt) {x = fin true m e} 1 (lit≤ tt) f
      (omega arith))

  sized_near : Near (exp_sized (fin true m e) true h)
  unfolding exp_sized
  sized_near = go (leb 0x3FF0_A2B2 h) (ltb 0x3FD6_2E42 h) (ltb 0x3E30_0000 h) refl refl refl
    where
      go : (x y z : Bool) → leb 0x3FF0_A2B2 h ≡ x → ltb 0x3FD6_2E42 h ≡ y → ltb 0x3E30_0000 h ≡ z
          → Near (pick x (exp_by (fin true m e) true (folds_of (fin true m e) true))
          (pick y (exp_by (fin true m e) true 1) (pick z (exp_near (fin true m e) (fin true m e) nought) (one ⊕ fin true m e))))
      go true y z p q r = by_near m e (folds_of (fin true m e) true) (reached (folded m e small))
      go false true z p q r = by_near m e 1 (once (leb-false 0x3FF0_A2B2 h p) (ltb-true 0x3FD6_2E42 h q))
      go false false true p q r = few_near (ltb-false 0x3FD6_2E42 h q)
      go false false false p q r = least_near (ltb-false 0x3E30_0000 h r)

-- ---- every x that is at most 0

nought_near : Near nought
unfolding of_bits is_plus
nought_near = record { plus = record { sign = tt }; under = record { size = lit≤ tt } }

one_is_near : Near one
unfolding of_bits is_plus
one_is_near = record { plus = record { sign = tt }; under = record { size = lit≤ tt } }

module _ (m : ℕ) (e : ℤ) (f : T (fits binary64 (fin true m e))) where
  abbrev n : ℕ
  n = to_bits binary64 (fin true m e)

  n-high : 2 ^ 63 ≤ n
  n-high = omega (arith, bits_fin true m e)

  n_lt : n < 2 ^ 64
  n_lt = to_bits-lt binary64 (fin true m e) f

  high_word : n / 0x1_0000_0000 % 0x8000_0000 ≡ n % 2 ^ 63 / 2 ^ 32
  high_word = omega (arith, n-high, n_lt)

  below_near : m * up e ≤ 746 * down e → Near (exp_sized (fin true m e) (leb 0x8000_0000_0000_0000 n) (n / 0x1_0000_0000 % 0x8000_0000))
  below_near l = rw (le-leb 0x8000_0000_0000_0000 n n-high, high_word) (sized_near m e f l)

  -- by the high word, and by the comparison with -745.13
  by_word : ltb (n / 0x1_0000_0000 % 0x8000_0000) 0x4086_232B ≡ true → m * up e ≤ 746 * down e
  by_word t =
      let l = ltb-true (n / 0x1_0000_0000 % 0x8000_0000) 0x4086_232B t in
      let a : m * up e * 2 ^ 20 ≤ 742807040 * down e = (bits_upper 0x4086_232B_0000_0000 1450795 (negsuc 10) (unfold of_bits in refl)
      (lit< tt) {x = fin true m e} 742807040 (lit≤ tt) f (omega (arith, high_word))).size in
      omega arith

  by_test : lt (fin true m e) (neg zero_below_minus) ≡ false → m * up e ≤ 746 * down e
  unfolding lt neg of_bits
  by_test t = omega (arith, ltb-false (6554261109157969 * 1 * down e) (m * up e * 2 ^ 43) t)

  minus_near : Near (exp_of (fin true m e))
  unfolding exp_of is_nan
  minus_near = go (ltb (n / 0x1_0000_0000 % 0x8000_0000) 0x4086_232B) (ne (fin true m e) (fin true m e)) (lt overflow_above (fin true m e))
      (lt (fin true m e) (neg zero_below_minus)) refl refl refl refl
    where
      y : Float
      y = exp_sized (fin true m e) (leb 0x8000_0000_0000_0000 n) (n / 0x1_0000_0000 % 0x8000_0000)

      go : (p q r s : Bool) → ltb (n / 0x1_0000_0000 % 0x8000_0000) 0x4086_232B ≡ p → ne (fin true m e) (fin true m e) ≡ q
          → lt overflow_above (fin true m e) ≡ r → lt (fin true m e) (neg zero_below_minus) ≡ s
          → Near (pick p y (pick q (fin true m e) (pick r (fin true m e ⊗ x1p1023) (pick s nought y))))
      go true q r s P Q R S = below_near (by_word P)
      go false true r s P Q R S = absurd (subst (λ (z : Float). T (is_nan z)) (sym (is_nan_lem (fin true m e) Q)) tt)
      go false false true s P Q R S = true_not_false (lt overflow_above (fin true m e)) R (unfold lt of_bits in refl)
      go false false false true P Q R S = nought_near
      go false false false false P Q R S = below_near (by_test S)

exp_lowest : exp_of (inf true) ≡ nought
unfolding exp_of to_bits of_bits neg lt ne
exp_lowest = refl

-- a zero with a plus sign is +0, and what else has one is above it
zero_is : (e : ℤ) → T (fits binary64 (fin false 0 e)) → fin false 0 e ≡ nought
zero_is e f = value_unique binary64 (fin false 0 e) nought false 0 1 (lit< tt) f (of_bits-fits binary64 0) (refl, none (up e) (down e))
    (unfold of_bits in (refl, refl))
  where
    none : (u d : ℕ) → 0 * u * 1 ≡ 0 * d
    none u d = omega arith

above_zero : (m : ℕ) (e : ℤ) → lt nought (fin false (suc m) e) ≡ true
unfolding lt of_bits
above_zero m e = lt-ltb (0 * 1 * down e) (suc m * up e * 1) (omega (arith, mul-pos (zero-lt-suc m) (up_pos e)))

near_below : (x : Float) → T (fits binary64 x) → T (not (is_nan x)) → lt nought x ≡ false → Near (exp_of x)
near_below nan f k h = absurd (unfold is_nan in k)
near_below (inf true) f k h = subst Near (sym exp_lowest) nought_near
near_below (inf false) f k h = true_not_false (lt nought (inf false)) (unfold lt of_bits in refl) h
near_below (fin true m e) f k h = minus_near m e f
near_below (fin false zero e) f k h = subst Near (sym (ap exp_of (zero_is e f) ∙ exp_zero)) one_is_near
near_below (fin false (suc m) e) f k h = true_not_false (lt nought (fin false (suc m) e)) (above_zero m e) h

-- the sign of exp is plus, and it is at most 2, where x is at most 0 and no NaN
pub exp_plus : (x : Float) → T (fits binary64 x) → T (not (is_nan x)) → lt nought x ≡ false → Plus (exp_of x)
exp_plus x f k h = (near_below x f k h).plus

pub exp_most : (x : Float) → T (fits binary64 x) → T (not (is_nan x)) → lt nought x ≡ false → AtMost 2 (exp_of x)
exp_most x f k h = under-most 2 (lit≤ tt) (near_below x f k h).under

-- ---- x = -0.5 z z, as the tempo's prior has it: at most 0, for every z of size at most 4,096

-- less than 0, or a zero
minus-below : (p : Float) → T (is_plus p) → lt nought (neg p) ≡ false
unfolding is_plus lt neg of_bits
minus-below nan s = absurd s
minus-below (inf true) s = absurd s
minus-below (inf false) s = refl
minus-below (fin true m e) s = absurd s
minus-below (fin false m e) s = refl

rounded_below : (a c : ℕ) → lt nought (round binary64 true a c) ≡ false
rounded_below a c = rw (round_neg binary64 a c) (minus-below (round binary64 false a c) (round_plus binary64 a c).sign)

half-under : Under U (neg half)
unfolding of_bits neg
half-under = record { size = lit≤ tt }

half_times : {z : Float} → AtMost 4096 z → Under (2 ^ 32) (neg half ⊗ z)
half_times h = mul-under (2 ^ 32) (lit< tt) (lit≤ tt) half-under (most-under h)

by_minus : (p : Float) (m : ℕ) (e : ℤ) → T (is_plus p) → parts_up_to (2 ^ 32) (neg p) → lt nought (neg p ⊗ fin false m e) ≡ false
unfolding is_plus neg mul
by_minus nan m e s u = absurd s
by_minus (inf t) m e s u = absurd u
by_minus (fin true k g) m e s u = absurd s
by_minus (fin false k g) m e s u = rounded_below (k * up g * (m * up e)) (down g * down e)

by_plus : (p : Float) (m : ℕ) (e : ℤ) → T (is_plus p) → parts_up_to (2 ^ 32) p → lt nought (p ⊗ fin true m e) ≡ false
unfolding is_plus mul
by_plus nan m e s u = absurd s
by_plus (inf t) m e s u = absurd u
by_plus (fin true k g) m e s u = absurd s
by_plus (fin false k g) m e s u = rounded_below (k * up g * (m * up e)) (down g * down e)

half_of_lem : (s : Bool) (m : ℕ) (e : ℤ) → neg half ⊗ fin s m e ≡ round binary64 (unlike true s) (1 * 1 * (m * up e)) (2 * down e)
unfolding mul neg of_bits
half_of_lem s m e = refl

square-below : (z : Float) → parts_up_to (2 ^ 32) (neg half ⊗ z) → size_up_to 4096 z → lt nought (neg half ⊗ z ⊗ z) ≡ false
square-below nan h k = absurd k
square-below (inf s) h k = absurd k
square-below (fin false m e) h k =
    let p = round binary64 false (1 * 1 * (m * up e)) (2 * down e) in
    let i : neg half ⊗ fin false m e ≡ neg p = half_of_lem false m e ∙ round_neg binary64 (1 * 1 * (m * up e)) (2 * down e) in
    rw i (by_minus p m e (round_plus binary64 (1 * 1 * (m * up e)) (2 * down e)).sign (subst (λ (y : Float). parts_up_to (2 ^ 32) y) i h))
square-below (fin true m e) h k =
    let p = round binary64 false (1 * 1 * (m * up e)) (2 * down e) in
    let i : neg half ⊗ fin true m e ≡ p = half_of_lem true m e in
    rw i (by_plus p m e (round_plus binary64 (1 * 1 * (m * up e)) (2 * down e)).sign (subst (λ (y : Float). parts_up_to (2 ^ 32) y) i h))

module _ {z : Float} (h : AtMost 4096 z) where
  square-fits : T (fits binary64 (neg half ⊗ z ⊗ z))
  square-fits = mul-fits binary64 (neg half ⊗ z) z

  square_not_nan : T (not (is_nan (neg half ⊗ z ⊗ z)))
  square_not_nan = most_not_nan (under-most (2 ^ 24) (lit≤ tt) (mul-under (2 ^ 44) (lit< tt) (lit≤ tt) (half_times h) (most-under h)))

  pub exp_square_plus : Plus (exp_of (neg half ⊗ z ⊗ z))
  exp_square_plus = exp_plus (neg half ⊗ z ⊗ z) square-fits square_not_nan (square-below z (half_times h).size h.size)

  pub exp_square_most : AtMost 2 (exp_of (neg half ⊗ z ⊗ z))
  exp_square_most = exp_most (neg half ⊗ z ⊗ z) square-fits square_not_nan (square-below z (half_times h).size h.size)
