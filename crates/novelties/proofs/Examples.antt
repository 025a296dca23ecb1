-- A few values of the definitions, computed, to read them by.
use mathlib.Core.Path.{◌≡◌, refl}
use mathlib.Core.List.{◌∷◌}
use lib.ListN.{replicate}
use lib.Ieee.{of_bits, to_bits, of_int, to_unsigned, add, sub, mul, div, neg, lt, ne, sum, round, units, size, span, climb, odd, of_fields}
use Rattle.numbers.specs.Rounded.{nought, one}
use Rattle.floats.specs.Exps.{exp_of, exp_at, exp_sized, folds_of, exp_by, exp_less, exp_near, scale_up, scale_down, times_up, times_down}
use Rattle.kernels.specs.Kernel.{weight_of, sign_at, kernel_at}
use Rattle.novelties.specs.Novelty.{slot_of, likeness, add_term, turns, add_row, novelty_at}

-- one row, like itself: its novelty is 1
one-row : novelty_at (one ∷ replicate 16 nought) 1 0 ≡ one
unfolding novelty_at add_row add_term turns likeness slot_of kernel_at sign_at weight_of exp_of exp_at exp_sized folds_of exp_by exp_less exp_near scale_up scale_down
    times_up times_down of_bits to_bits of_int to_unsigned add sub mul div neg lt ne sum round units size span climb odd of_fields
one-row = refl
