-- The definition computed on a few floats: the bits are IEEE 754's square root's. Assumes nothing.
use mathlib.Core.Path.{◌≡◌, refl}
use lib.Ieee.{of_bits}
use Rattle.numbers.specs.Rounded.{bits}
use Rattle.roots.specs.Roots.{sqrt_of}

-- 2
root-two : sqrt_of (bits 0x4000_0000_0000_0000) ≡ bits 0x3FF6_A09E_667F_3BCD
unfolding sqrt_of of_bits
root-two = refl

-- 4, exactly
root_four : sqrt_of (bits 0x4010_0000_0000_0000) ≡ bits 0x4000_0000_0000_0000
unfolding sqrt_of of_bits
root_four = refl

-- 0.1
root-tenth : sqrt_of (bits 0x3FB9_9999_9999_999A) ≡ bits 0x3FD4_3D13_6248_490F
unfolding sqrt_of of_bits
root-tenth = refl

-- the float before 1: it rounds down, since the root lies just below the mean of that float and 1
root_below_one : sqrt_of (bits 0x3FEF_FFFF_FFFF_FFFF) ≡ bits 0x3FEF_FFFF_FFFF_FFFF
unfolding sqrt_of of_bits
root_below_one = refl

-- the float after 1
root_above_one : sqrt_of (bits 0x3FF0_0000_0000_0001) ≡ bits 0x3FF0_0000_0000_0000
unfolding sqrt_of of_bits
root_above_one = refl

-- 2 ^ -52, whose root is 2 ^ -26
root-epsilon : sqrt_of (bits 0x3CB0_0000_0000_0000) ≡ bits 0x3E50_0000_0000_0000
unfolding sqrt_of of_bits
root-epsilon = refl

-- the smallest float, 2 ^ -1074
root_smallest : sqrt_of (bits 0x0000_0000_0000_0001) ≡ bits 0x1E60_0000_0000_0000
unfolding sqrt_of of_bits
root_smallest = refl

-- a subnormal
root_odd_subnormal : sqrt_of (bits 0x0000_0000_0000_0003) ≡ bits 0x1E6B_B67A_E858_4CAA
unfolding sqrt_of of_bits
root_odd_subnormal = refl

-- the largest subnormal
root_largest_subnormal : sqrt_of (bits 0x000F_FFFF_FFFF_FFFF) ≡ bits 0x1FFF_FFFF_FFFF_FFFF
unfolding sqrt_of of_bits
root_largest_subnormal = refl

-- the largest float
root_largest : sqrt_of (bits 0x7FEF_FFFF_FFFF_FFFF) ≡ bits 0x5FEF_FFFF_FFFF_FFFF
unfolding sqrt_of of_bits
root_largest = refl
