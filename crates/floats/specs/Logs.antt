-- Document 01, Leaves: "`log`, `log2` .. : the `libm` calls .., as a fixed sequence of rounded operations".
--
-- The sequence is that of log.rs and log2.rs in the Rust crate libm, which are e_log.c and e_log2.c of FreeBSD's msun; the version
-- compared is 0.2.1. Each operation below is one rounded operation there, in the same order, and each constant has its name there,
-- without underscores.
-- Both logarithms write x as 2 ^ k * (1 + f) with sqrt(2)/2 <= 1 + f < sqrt(2), and share all that follows up to s * (hfsq + R).
use Rattle.std.specs.Prelude.{ℕ, ◌+◌, ◌-◌, ◌*◌, ◌/◌, ◌%◌, Bool, not, ◌&&◌, ◌==◌, nat_le, nat_lt, to_bits, Float}
use Rattle.std.specs.Float.{binary64}
use Rattle.std.specs.Float.Ieee.{neg}
use Rattle.numbers.specs.Rounded.{◌⊕◌, ◌⊖◌, ◌⊗◌, ◌⊘◌, bits, real, nought, pick, one, half}

-- ---- constants

-- 2
abbrev pub two : Float
two = bits 0x4000_0000_0000_0000

-- 2 ^ 54
abbrev pub x1p54 : Float
x1p54 = bits 0x4350_0000_0000_0000

-- 1,023: the bias of the exponent's field
abbrev pub bias : Float
bias = bits 0x408F_F800_0000_0000

-- 1,077: the bias, and 54 more
abbrev pub bias_after_54 : Float
bias_after_54 = bits 0x4090_D400_0000_0000

-- 6.666666666666735130e-01
abbrev pub Lg1 : Float
Lg1 = bits 0x3FE5_5555_5555_5593

-- 3.999999999940941908e-01
abbrev pub Lg2 : Float
Lg2 = bits 0x3FD9_9999_9997_FA04

-- 2.857142874366239149e-01
abbrev pub Lg3 : Float
Lg3 = bits 0x3FD2_4924_9422_9359

-- 2.222219843214978396e-01
abbrev pub Lg4 : Float
Lg4 = bits 0x3FCC_71C5_1D8E_78AF

-- 1.818357216161805012e-01
abbrev pub Lg5 : Float
Lg5 = bits 0x3FC7_4664_96CB_03DE

-- 1.531383769920937332e-01
abbrev pub Lg6 : Float
Lg6 = bits 0x3FC3_9A09_D078_C69F

-- 1.479819860511658591e-01
abbrev pub Lg7 : Float
Lg7 = bits 0x3FC2_F112_DF3E_5244

-- 6.93147180369123816490e-01, the high part of ln 2
abbrev pub ln2hi : Float
ln2hi = bits 0x3FE6_2E42_FEE0_0000

-- 1.90821492927058770002e-10, the low part of ln 2
abbrev pub ln2lo : Float
ln2lo = bits 0x3DEA_39EF_3579_3C76

-- 1.44269504072144627571e+00, the high part of 1 / ln 2
abbrev pub ivln2hi : Float
ivln2hi = bits 0x3FF7_1547_6520_0000

-- 1.67517131648865118353e-10, the low part of 1 / ln 2
abbrev pub ivln2lo : Float
ivln2lo = bits 0x3DE7_05FC_2EEF_A200

-- ---- what is answered without the sequence. Here and below n has the bits of x

-- whether the sequence is run: x is positive, finite and not 1
unfoldable pub in_sequence : ℕ → Bool
in_sequence n = nat_lt 0 n && (nat_lt n 0x7FF0_0000_0000_0000 && not (n == 0x3FF0_0000_0000_0000))

-- else: minus infinity at a zero, NaN below 0, an infinity and a NaN themselves, and +0 at 1
unfoldable pub apart_of : Float → ℕ → Float
apart_of x n =
    pick (n % 0x8000_0000_0000_0000 == 0) (neg one ⊘ (x ⊗ x))
    (pick (nat_le 0x8000_0000_0000_0000 n) ((x ⊖ x) ⊘ nought)
    (pick (nat_le 0x7FF0_0000_0000_0000 n) x nought))

-- ---- the reduction to k and f, and what both logarithms make of f

-- whether x is subnormal, and is multiplied by 2 ^ 54 first
abbrev pub is_subnormal : ℕ → Bool
is_subnormal n = nat_lt n 0x0010_0000_0000_0000

-- the bits to reduce
unfoldable pub scaled_bits : Float → ℕ → ℕ
scaled_bits x n = pick (is_subnormal n) (to_bits binary64 (x ⊗ x1p54)) n

-- the bias to take from the exponent's field
unfoldable pub bias_of : ℕ → Float
bias_of n = pick (is_subnormal n) bias_after_54 bias

-- of the bits u: the high word plus 0x3FF00000 - 0x3FE6A09E, so that its upper part counts powers of two from sqrt(2)/2 on
abbrev pub high_word : ℕ → ℕ
high_word u = u / 0x1_0000_0000 + 0x9_5F62

-- k, which is whole and small, so that this difference is exact
unfoldable pub power_of : ℕ → Float → Float
power_of u b = real (high_word u / 0x10_0000) ⊖ b

-- f
unfoldable pub rest_of : ℕ → Float
rest_of u = bits ((high_word u % 0x10_0000 + 0x3FE6_A09E) * 0x1_0000_0000 + u % 0x1_0000_0000) ⊖ one

-- hfsq
unfoldable pub half_square : Float → Float
half_square f = half ⊗ f ⊗ f

-- s * (hfsq + R), where R is the series in s = f / (2 + f)
unfoldable pub series_of : Float → Float
unfolding half_square
series_of f =
    let s = f ⊘ (two ⊕ f) in
    let z = s ⊗ s in
    let w = z ⊗ z in
    let t1 = w ⊗ (Lg2 ⊕ w ⊗ (Lg4 ⊕ w ⊗ Lg6)) in
    let t2 = z ⊗ (Lg1 ⊕ w ⊗ (Lg3 ⊕ w ⊗ (Lg5 ⊕ w ⊗ Lg7))) in
    s ⊗ (half_square f ⊕ (t2 ⊕ t1))

-- ---- the natural logarithm

unfoldable pub log_from : (k f : Float) → Float
unfolding series_of
log_from k f = series_of f ⊕ k ⊗ ln2lo ⊖ half_square f ⊕ f ⊕ k ⊗ ln2hi

-- n has the bits of x
unfoldable pub log_at : Float → ℕ → Float
unfolding in_sequence apart_of scaled_bits bias_of power_of rest_of log_from
log_at x n = let u = scaled_bits x n in pick (in_sequence n) (log_from (power_of u (bias_of n)) (rest_of u)) (apart_of x n)

unfoldable pub log_of : Float → Float
unfolding log_at
log_of x = log_at x (to_bits binary64 x)

-- ---- the binary logarithm

-- the float of the upper 32 bits of x, the lower 32 cleared
unfoldable pub upper_half : Float → Float
upper_half x = let b = to_bits binary64 x in bits (b - b % 0x1_0000_0000)

unfoldable pub log2_from : (k f : Float) → Float
unfolding series_of upper_half
log2_from k f =
    let hfsq = half_square f in
    let hi = upper_half (f ⊖ hfsq) in
    let lo = f ⊖ hi ⊖ hfsq ⊕ series_of f in
    let val_hi = hi ⊗ ivln2hi in
    let val_lo = (lo ⊕ hi) ⊗ ivln2lo ⊕ lo ⊗ ivln2hi in
    let w = k ⊕ val_hi in
    val_lo ⊕ (k ⊖ w ⊕ val_hi) ⊕ w

-- n has the bits of x
unfoldable pub log2_at : Float → ℕ → Float
unfolding in_sequence apart_of scaled_bits bias_of power_of rest_of log2_from
log2_at x n = let u = scaled_bits x n in pick (in_sequence n) (log2_from (power_of u (bias_of n)) (rest_of u)) (apart_of x n)

unfoldable pub log2_of : Float → Float
unfolding log2_at
log2_of x = log2_at x (to_bits binary64 x)
