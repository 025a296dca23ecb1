-- A magnitude that is fine is within the bounds of any magnitude, and not below +0.
use mathlib.Core.Path.{◌≡◌, refl}
use mathlib.Core.Bool.{true, not}
use lib.Dec.{T}
use lib.Ieee.{Float, neg, le, is_nan, of_bits}
use Rattle.numbers.specs.Rounded.{nought}
use Rattle.numbers.specs.Limits.{magnitude_top, magnitude_fine}
use Rattle.numbers.proofs.Tests.{and_left, and_right, and_both}
use Rattle.sizes.specs.Sizes.{Within}
use Rattle.sizes.proofs.Order.{le_then_le}
use Rattle.sizes.proofs.Tests.{magnitude_within, magnitude_not_nan}
use Rattle.feature_lanes.specs.Addends.{strength_fine}

below-nought : le (neg magnitude_top) nought ≡ true
unfolding le neg of_bits
below-nought = refl

pub strength_from : (x : Float) → strength_fine x ≡ true → le nought x ≡ true
unfolding strength_fine
strength_from x h = and_left (le nought x) (le x magnitude_top) h

pub strength_magnitude : (x : Float) → strength_fine x ≡ true → magnitude_fine x ≡ true
unfolding strength_fine magnitude_fine
strength_magnitude x h =
    and_both _ _ (le_then_le (neg magnitude_top) nought x below-nought (and_left (le nought x) (le x magnitude_top) h)) (and_right (le nought x)
    (le x magnitude_top) h)

pub strength_within : (x : Float) → strength_fine x ≡ true → Within 126 x
strength_within x h = magnitude_within x (strength_magnitude x h)

pub strength_not_nan : (x : Float) → strength_fine x ≡ true → T (not (is_nan x))
strength_not_nan x h = magnitude_not_nan x (strength_magnitude x h)
