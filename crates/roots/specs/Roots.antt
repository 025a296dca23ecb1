-- Document 01, "Leaves": "Square root, correctly rounded, stated with whole numbers: no neighbouring float is nearer, told
-- by comparing squares."
use Rattle.std.specs.Prelude.{◌≡◌, Bool, ◌&&◌, ℕ, zero, suc, ◌+◌, ◌-◌, ◌*◌, ◌/◌, ◌%◌, ◌^◌, ◌<◌, leb, ltb, Float}
use Rattle.std.specs.Float.{nan, binary64}
use Rattle.std.specs.Float.Ieee.{to_bits, size, lt, eq}
use Rattle.numbers.specs.Rounded.{bits, nought, pick}

-- ---- the statement

-- 2 ^ 52, the weight of the exponent's field in a float's bits
abbrev pub hidden : ℕ
hidden = 0x10_0000_0000_0000

-- the bits of the infinity
abbrev pub infinite : ℕ
infinite = 0x7FF0_0000_0000_0000

-- The size of the float with the bits n, finite and not negative, in units of the smallest float, 2 ^ -1074: a subnormal
-- is that many of them, a normal has the hidden digit before its others, and a power of two.
unfoldable pub size_of : ℕ → ℕ
size_of n = pick (ltb n hidden) n ((n % hidden + hidden) * 2 ^ (n / hidden - 1))

-- the square of that float's root, in the same units
unfoldable pub square_of : ℕ → ℕ
unfolding size_of
square_of n = size_of n * 2 ^ 1074

-- The float with the bits r is nearer to the root of the float with the bits n than both of its neighbours, those with the
-- bits r - 1 and r + 1: the root lies between the two means, and the squares of twice as much tell it.
pub record NearestRoot (n r : ℕ) : Type 0 where
  pub above : (size_of (r - 1) + size_of r) * (size_of (r - 1) + size_of r) < 4 * square_of n
  pub below : 4 * square_of n < (size_of r + size_of (r + 1)) * (size_of r + size_of (r + 1))

-- x is finite and above zero, and r its root, correctly rounded
pub record RoundedRoot (x r : Float) : Type 0 where
  pub n : ℕ
  pub s : ℕ
  pub above : 0 < n
  pub finite : n < infinite
  pub number : x ≡ bits n
  pub root : r ≡ bits s
  pub nearest : NearestRoot n s

-- ---- the definition, which computes; proofs/Roots shows that it is the one root correctly rounded

-- s or s + 1, whichever is the whole part of the root of m
abbrev pub next_root : ℕ → ℕ → ℕ
next_root m s = pick (leb ((s + 1) * (s + 1)) m) (s + 1) s

-- the whole part of the root of an m below 4 ^ k, by one binary digit after another
unfoldable pub root_digits : ℕ → ℕ → ℕ
root_digits zero m = 0
root_digits (suc k) m = next_root m (2 * root_digits k (m / 4))

-- the whole part of the root of m, which has half as many digits
unfoldable pub whole_root : ℕ → ℕ
unfolding root_digits size
whole_root m = root_digits (size m / 2 + 1) m

-- The bits of the root of the float with the bits n. s is twice the root in units, cut to a whole number, and p how many
-- digits it has past fifty-four; half of the leading fifty-four, rounded, are the fifty-three digits of a float.
unfoldable pub root_bits : ℕ → ℕ
unfolding square_of whole_root size
root_bits n = let s = whole_root (4 * square_of n) in let p = size s - 54 in (s / 2 ^ p + 1) / 2 + p * hidden

-- the root of an x above zero with the bits n: the infinity is its own
unfoldable pub root_above : Float → ℕ → Float
unfolding root_bits
root_above x n = pick (ltb n infinite) (bits (root_bits n)) x

-- a zero is its own root, with its sign; below zero there is none, nor of what is no number
unfoldable pub sqrt_of : Float → Float
unfolding root_above to_bits lt eq
sqrt_of x = pick (lt nought x) (root_above x (to_bits binary64 x)) (pick (eq x nought) x nan)

-- ---- for the contracts inside the crate

-- whether y is the whole number nearest to the root of a * 2 ^ 52: the root lies above y - 1/2 and below y + 1/2, and
-- squares tell it
unfoldable pub nearest_whole : ℕ → ℕ → Bool
nearest_whole a y = ltb (y * y) (a * hidden + y) && leb (a * hidden) (y * y + y)
