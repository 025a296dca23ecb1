-- Document 01, Leaves: "`exp`: the `libm` calls .., as a fixed sequence of rounded operations".
--
-- The sequence is that of exp.rs with scalbn.rs in the Rust crate libm, which are e_exp.c of FreeBSD's msun and musl's scalbn.c; the
-- version compared is 0.2.1. Each operation below is one rounded operation there, in the same order, and each constant has its
-- name there.
-- x is written as k * ln 2 + r with |r| <= 0.5 * ln 2, and exp x is 2 ^ k * exp r. k is a whole number m with a sign.
use Rattle.std.specs.Prelude.{ℕ, ◌+◌, ◌-◌, ◌*◌, ◌/◌, ◌%◌, Bool, nat_le, nat_lt, to_bits, Float}
use Rattle.std.specs.Float.{binary64}
use Rattle.std.specs.Float.Ieee.{neg, lt, ne, to_unsigned}
use Rattle.numbers.specs.Rounded.{◌⊕◌, ◌⊖◌, ◌⊗◌, ◌⊘◌, bits, real, nought, pick, one, half}
use Rattle.floats.specs.Logs.{two, ln2hi, ln2lo}

-- ---- constants

-- 1.44269504088896338700e+00, 1 / ln 2
abbrev pub invln2 : Float
invln2 = bits 0x3FF7_1547_652B_82FE

-- 1.66666666666666019037e-01
abbrev pub P1 : Float
P1 = bits 0x3FC5_5555_5555_553E

-- -2.77777777770155933842e-03
abbrev pub P2 : Float
P2 = bits 0xBF66_C16C_16BE_BD93

-- 6.61375632143793436117e-05
abbrev pub P3 : Float
P3 = bits 0x3F11_566A_AF25_DE2C

-- -1.65339022054652515390e-06
abbrev pub P4 : Float
P4 = bits 0xBEBB_BD41_C5D2_6BF1

-- 4.13813679705723846039e-08
abbrev pub P5 : Float
P5 = bits 0x3E66_3769_72BE_A4D0

-- 2 ^ 1023
abbrev pub x1p1023 : Float
x1p1023 = bits 0x7FE0_0000_0000_0000

-- 2 ^ -1022 times 2 ^ 53
abbrev pub x1p_minus_969 : Float
x1p_minus_969 = bits 0x0010_0000_0000_0000 ⊗ bits 0x4340_0000_0000_0000

-- 709.782712893383973096: above it exp overflows
abbrev pub overflow_above : Float
overflow_above = bits 0x4086_2E42_FEFA_39EF

-- 745.13321910194110842: below minus it exp is 0
abbrev pub zero_below_minus : Float
zero_below_minus = bits 0x4087_4910_D52D_3051

-- ---- scalbn: y times 2 ^ n, and y times 2 ^ -n. A power that is out of range is taken in two or three steps

-- the float 2 ^ (i - 1023), for i from 1 to 2,046: its exponent's field is i
abbrev pub power_at : ℕ → Float
power_at i = bits (i * 0x10_0000_0000_0000)

unfoldable pub times_up : Float → ℕ → Float
times_up y n = y ⊗ pick (nat_lt 1023 n) (power_at 2046) (power_at (1023 + n))

unfoldable pub times_down : Float → ℕ → Float
times_down y n = y ⊗ pick (nat_lt 1022 n) (power_at 1) (power_at (1023 - n))

unfoldable pub scale_up : Float → ℕ → Float
scale_up y n =
    pick (nat_lt 1023 n)
    (pick (nat_lt 1023 (n - 1023)) (times_up (y ⊗ x1p1023 ⊗ x1p1023) (n - 1023 - 1023)) (times_up (y ⊗ x1p1023) (n - 1023)))
    (times_up y n)

unfoldable pub scale_down : Float → ℕ → Float
scale_down y n =
    pick (nat_lt 1022 n)
    (pick (nat_lt 1022 (n - 969)) (times_down (y ⊗ x1p_minus_969 ⊗ x1p_minus_969) (n - 969 - 969)) (times_down (y ⊗ x1p_minus_969) (n - 969)))
    (times_down y n)

-- ---- the sequence

-- exp of hi - lo, where r is that difference
unfoldable pub exp_near : (r hi lo : Float) → Float
exp_near r hi lo =
    let rr = r ⊗ r in
    let c = r ⊖ rr ⊗ (P1 ⊕ rr ⊗ (P2 ⊕ rr ⊗ (P3 ⊕ rr ⊗ (P4 ⊕ rr ⊗ P5)))) in
    one ⊕ (r ⊗ c ⊘ (two ⊖ c) ⊖ lo ⊕ hi)

-- exp of x less k times ln 2, whose high and low parts are subtracted one after the other
unfoldable pub exp_less : (x k : Float) → Float
exp_less x k =
    let hi = x ⊖ k ⊗ ln2hi in
    let lo = k ⊗ ln2lo in
    exp_near (hi ⊖ lo) hi lo

-- k is m, or -m where x is negative
unfoldable pub exp_by : Float → Bool → ℕ → Float
exp_by x negative m =
    pick negative (scale_down (exp_less x (neg (real m))) m) (scale_up (exp_less x (real m)) m)

-- m, for |x| at least 1.5 ln 2: |x| / ln 2 + 0.5, cut to a whole number
unfoldable pub folds_of : Float → Bool → ℕ
folds_of x negative = to_unsigned 64 (pick negative (neg (invln2 ⊗ x ⊕ neg half)) (invln2 ⊗ x ⊕ half))

-- by h, the high word of |x|: at least 1.5 ln 2, above 0.5 ln 2, above 2 ^ -28, and the rest
unfoldable pub exp_sized : Float → Bool → ℕ → Float
exp_sized x negative h =
    pick (nat_le 0x3FF0_A2B2 h) (exp_by x negative (folds_of x negative))
    (pick (nat_lt 0x3FD6_2E42 h) (exp_by x negative 1)
    (pick (nat_lt 0x3E30_0000 h) (exp_near x x nought)
    (one ⊕ x)))

-- n has the bits of x. From |x| of about 708.39 on, a NaN, an overflow and an underflow to 0 are told apart first
unfoldable pub exp_at : Float → ℕ → Float
exp_at x n =
    let h = n / 0x1_0000_0000 % 0x8000_0000 in
    let y = exp_sized x (nat_le 0x8000_0000_0000_0000 n) h in
    pick (nat_lt h 0x4086_232B) y
    (pick (ne x x) x
    (pick (lt overflow_above x) (x ⊗ x1p1023)
    (pick (lt x (neg zero_below_minus)) nought y)))

unfoldable pub exp_of : Float → Float
unfolding times_up times_down scale_up scale_down exp_near exp_less exp_by folds_of exp_sized exp_at
exp_of x = exp_at x (to_bits binary64 x)
