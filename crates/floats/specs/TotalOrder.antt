-- Document 01, Leaves: "sort by IEEE totalOrder". The order of two values is the order of their keys: negative values from the
-- largest down, -0, +0, positive values upwards, and the one NaN last.
use Rattle.std.specs.Prelude.{ℕ, ◌+◌, ◌-◌, nat_lt, to_bits, Float}
use Rattle.std.specs.Float.{binary64}
use Rattle.numbers.specs.Rounded.{pick}

-- sixty-four bits, turned so that the order of the numbers is the order of the values: 2 ^ 63 is added where the sign is clear,
-- and where it is set the number is mirrored
unfoldable pub turned : ℕ → ℕ
turned b = pick (nat_lt b 0x8000_0000_0000_0000) (b + 0x8000_0000_0000_0000) (0xFFFF_FFFF_FFFF_FFFF - b)

unfoldable pub key : Float → ℕ
key x = turned (to_bits binary64 x)
