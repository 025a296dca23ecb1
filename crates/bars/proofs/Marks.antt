-- The marked number M11's downbeat, computed on the definitions.
use mathlib.Core.Path.{◌≡◌, refl}
use mathlib.Core.List.{[], ◌∷◌}
use lib.Ieee.{of_int, of_bits, add, lt}
use Rattle.numbers.specs.Rounded.{real, sum_from}
use Rattle.lists.specs.Greatest.{greatest, first_greatest}
use Rattle.options.specs.Options.{default_meter}
use Rattle.bars.specs.Downbeats.{beat_flux, in_phase, phase_sum, downbeat_phase, downbeats_of}

-- "M11 envelope 0,4,0,4,0,4, P = 2: beats 1, 3, 5, downbeat 1"
pub m11 : downbeats_of (real 0 ∷ real 4 ∷ real 0 ∷ real 4 ∷ real 0 ∷ real 4 ∷ []) (1 ∷ 3 ∷ 5 ∷ []) default_meter ≡ 1 ∷ []
unfolding downbeats_of downbeat_phase first_greatest greatest phase_sum in_phase beat_flux sum_from of_int of_bits add lt
m11 = refl
