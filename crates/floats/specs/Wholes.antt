-- Document 01, Leaves: "Round half away from zero, ceiling". Each as the whole number that Rust's `x.round() as u64` and
-- `x.ceil() as u64` give, for every x: a NaN and what is below 0 give 0, and what is too large for 64 bits gives 2 ^ 64 - 1.
--
-- A finite value is m * 2 ^ e, negative where the sign s is set, and 2 ^ e is the fraction up e / down e.
use Rattle.std.specs.Prelude.{ℕ, ◌+◌, ◌-◌, ◌*◌, ◌/◌, ◌^◌, min, cond, Float}
use Rattle.std.specs.Float.{nan, inf, fin}
use Rattle.std.specs.Float.Ieee.{up, down}

-- the largest number of 64 bits
abbrev pub most : ℕ
most = 2 ^ 64 - 1

-- a / d to the nearest whole number, a half upwards: the whole part of a / d + 1/2
abbrev pub nearest_over : ℕ → ℕ → ℕ
nearest_over a d = (2 * a + d) / (2 * d)

-- the least whole number that is no less than a / d
abbrev pub ceiling_over : ℕ → ℕ → ℕ
ceiling_over a d = (a + d - 1) / d

-- the nearest whole number, a half away from zero
unfoldable pub round_of : Float → ℕ
round_of nan = 0
round_of (inf s) = cond s 0 most
round_of (fin s m e) = cond s 0 (min (nearest_over (m * up e) (down e)) most)

-- the least whole number that is no less than x
unfoldable pub ceil_of : Float → ℕ
ceil_of nan = 0
ceil_of (inf s) = cond s 0 most
ceil_of (fin s m e) = cond s 0 (min (ceiling_over (m * up e) (down e)) most)
