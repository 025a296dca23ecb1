-- A few values of the definitions, computed, to read them by.
use mathlib.Core.Path.{◌≡◌, refl}
use lib.Ieee.{Float, of_bits, neg, lt, eq}
use Rattle.numbers.specs.Rounded.{bits, nought, held}
use Rattle.row_pairs.specs.Pairs.{is_zero, settled}

-- 1
abbrev one : Float
one = bits 0x3FF0_0000_0000_0000

-- rows 3, 4 and 4, 3, whose norms are 5: 24/25, and a row of zeros: +0
alike : settled (bits 0x3FEE_B851_EB85_1EB8) one one ≡ bits 0x3FEE_B851_EB85_1EB8
unfolding settled is_zero held of_bits eq lt neg
alike = refl

zeros : settled one one nought ≡ nought
unfolding settled is_zero held of_bits eq lt neg
zeros = refl

-- more than 1 is held, less than -1 too, and -0 stays
high : settled (bits 0x3FF0_0000_0000_0001) one one ≡ one
unfolding settled is_zero held of_bits eq lt neg
high = refl

low : settled (neg (bits 0x3FF0_0000_0000_0001)) one one ≡ neg one
unfolding settled is_zero held of_bits eq lt neg
low = refl

minus-zero : settled (neg nought) one one ≡ neg nought
unfolding settled is_zero held of_bits eq lt neg
minus-zero = refl
