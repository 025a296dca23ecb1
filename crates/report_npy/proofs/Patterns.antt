-- The patterns of a NaN in binary32, which `value_of` tells apart. Assumes nothing.
use mathlib.Core.Path.{◌≡◌, refl, sym, subst, ◌∙◌}
use mathlib.Core.Bool.{true, false}
use Prim.Native.Nat.{ℕ, ◌%◌, ◌≤◌, ◌<◌}
use lib.Dec.{T}
use lib.Ieee.{Float, nan, inf, fin, binary32, is_nan, of_bits, nan_bits}
use lib.Ieee.Bits.{nan_bits_is, nan_bits_above}
use borrow.Author.Tests.{le-ltb, lt-ltb}

nan_of_is_nan : (x : Float) → is_nan x ≡ true → x ≡ nan
unfolding is_nan
nan_of_is_nan nan h = refl
nan_of_is_nan (inf s) h = absurd (subst T (sym h) tt)
nan_of_is_nan (fin s m e) h = absurd (subst T (sym h) tt)

-- with the sign taken off, a NaN's pattern is above that of infinity
pub above_is_nan : (n : ℕ) → 0x7f80_0000 < n % 0x8000_0000 → of_bits binary32 n ≡ nan
above_is_nan n h = nan_of_is_nan (of_bits binary32 n) (sym (nan_bits_is binary32 n) ∙ nan_bits_above binary32 n ∙ lt-ltb _ _ h)

pub no_nan_pattern : (n : ℕ) → n % 0x8000_0000 ≤ 0x7f80_0000 → nan_bits binary32 n ≡ false
no_nan_pattern n h = nan_bits_above binary32 n ∙ le-ltb _ _ h

-- the one that code writes for a NaN
pub nan_pattern : of_bits binary32 0x7fc0_0000 ≡ nan
unfolding of_bits
nan_pattern = refl
