-- A few values of the definitions, computed, to read them by.
use mathlib.Core.Path.{◌≡◌, refl}
use lib.Ieee.{of_bits, to_bits, of_int, to_unsigned, add, sub, mul, div, neg, lt, ne, sum, round, units, size, span, climb, odd, of_fields}
use Rattle.numbers.specs.Rounded.{bits, one}
use Rattle.floats.specs.Exps.{exp_of, exp_at, exp_sized, folds_of, exp_by, exp_less, exp_near, scale_up, scale_down, times_up, times_down}
use Rattle.kernels.specs.Kernel.{weight_of, sign_at, kernel_at}

-- the middle of the kernel is 1, its corner exp(-4)
kernel_middle : kernel_at 8 8 ≡ one
unfolding kernel_at sign_at weight_of exp_of exp_at exp_sized folds_of exp_by exp_less exp_near scale_up scale_down times_up times_down of_bits to_bits of_int
    to_unsigned add sub mul div neg lt ne sum round units size span climb odd of_fields
kernel_middle = refl

kernel_corner : kernel_at 0 0 ≡ bits 0x3F92_C155_B821_3CF4
unfolding kernel_at sign_at weight_of exp_of exp_at exp_sized folds_of exp_by exp_less exp_near scale_up scale_down times_up times_down of_bits to_bits of_int
    to_unsigned add sub mul div neg lt ne sum round units size span climb odd of_fields
kernel_corner = refl
