-- Document 01, Leaves: "log(1) and log2(1) are +0 and exp of either zero is 1, proved", by computing; and what each leaf gives at the
-- zeros, the infinities, the NaN and -1, and what is rounded near halves. Assumes nothing.
use Rattle.std.proofs.Common.{◌≡◌, ℕ, List, [], ◌∷◌, map, refl}
use lib.Ieee.{Float, binary64, add, sub, mul, div, neg, lt, ne, of_bits, to_bits, of_int, to_unsigned}
use Rattle.numbers.specs.Rounded.{bits, nought, one}
use Rattle.floats.specs.Logs.{log_of, log2_of}
use Rattle.floats.specs.Exps.{exp_of}
use Rattle.floats.specs.Wholes.{round_of, ceil_of}

-- -0
abbrev minus_nought : Float
minus_nought = bits 0x8000_0000_0000_0000

pub log_one : log_of one ≡ nought
unfolding log_of to_bits of_bits
log_one = refl

pub log2_one : log2_of one ≡ nought
unfolding log2_of to_bits of_bits
log2_one = refl

pub exp_zero : exp_of nought ≡ one
unfolding exp_of to_bits of_bits add
exp_zero = refl

pub exp_minus_zero : exp_of minus_nought ≡ one
unfolding exp_of to_bits of_bits add
exp_minus_zero = refl

-- the bits of f's answers at a list of bits
abbrev answers : (Float → Float) → List ℕ → List ℕ
answers f ns = map (λ (n : ℕ). to_bits binary64 (f (bits n))) ns

-- +0, -0, +infinity, -infinity, the NaN, -1
abbrev specials : List ℕ
specials = 0 ∷ 0x8000_0000_0000_0000 ∷ 0x7FF0_0000_0000_0000 ∷ 0xFFF0_0000_0000_0000 ∷ 0x7FF8_0000_0000_0000 ∷ 0xBFF0_0000_0000_0000 ∷ []

-- -infinity twice, +infinity, and the NaN three times
abbrev log_specials : List ℕ
log_specials = 0xFFF0_0000_0000_0000 ∷ 0xFFF0_0000_0000_0000 ∷ 0x7FF0_0000_0000_0000 ∷ 0x7FF8_0000_0000_0000 ∷ 0x7FF8_0000_0000_0000 ∷ 0x7FF8_0000_0000_0000 ∷ []

log_specials_lem : answers log_of specials ≡ log_specials
unfolding log_of to_bits of_bits of_int add sub mul div neg
log_specials_lem = refl

log2_specials : answers log2_of specials ≡ log_specials
unfolding log2_of to_bits of_bits of_int add sub mul div neg
log2_specials = refl

-- 1 twice, +infinity, +0, the NaN, and 0.36787944117144233
exp_specials : answers exp_of specials ≡ 0x3FF0_0000_0000_0000 ∷ 0x3FF0_0000_0000_0000 ∷ 0x7FF0_0000_0000_0000 ∷ 0 ∷ 0x7FF8_0000_0000_0000 ∷
    0x3FD7_8B56_362C_EF38 ∷ []
unfolding exp_of to_bits of_bits of_int add sub mul div neg lt ne to_unsigned
exp_specials = refl

-- 0.49999999999999994, 0.5, 0.5000000000000001, 1.5, 2.5, 4503599627370495.5, 2 ^ 53, 2 ^ 64, -2.5, the NaN
abbrev halves : List ℕ
halves = 0x3FDF_FFFF_FFFF_FFFF ∷ 0x3FE0_0000_0000_0000 ∷ 0x3FE0_0000_0000_0001 ∷ 0x3FF8_0000_0000_0000 ∷ 0x4004_0000_0000_0000 ∷ 0x432F_FFFF_FFFF_FFFF
    ∷ 0x4340_0000_0000_0000 ∷ 0x43F0_0000_0000_0000 ∷ 0xC004_0000_0000_0000 ∷ 0x7FF8_0000_0000_0000 ∷ []

round_halves : map (λ (n : ℕ). round_of (bits n)) halves ≡ 0 ∷ 1 ∷ 1 ∷ 2 ∷ 3 ∷ 4503599627370496 ∷ 9007199254740992 ∷ 18446744073709551615 ∷ 0 ∷ 0 ∷ []
unfolding round_of of_bits
round_halves = refl

ceil_halves : map (λ (n : ℕ). ceil_of (bits n)) halves ≡ 1 ∷ 1 ∷ 1 ∷ 2 ∷ 3 ∷ 4503599627370496 ∷ 9007199254740992 ∷ 18446744073709551615 ∷ 0 ∷ 0 ∷ []
unfolding ceil_of of_bits
ceil_halves = refl
