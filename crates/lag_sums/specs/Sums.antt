-- Document 01, Tempo and candidates: the mean of an envelope, and its centred products a lag apart, summed.
use Rattle.std.specs.Prelude.{ℕ, ◌+◌, ◌-◌, List, length, get_or, Float}
use Rattle.std.specs.Float.{nan}
use Rattle.numbers.specs.Rounded.{◌⊖◌, ◌⊗◌, sum_of}
use Rattle.numbers.specs.Lists.{curve}

-- the slot at t less the mean
abbrev pub centred : List Float → Float → ℕ → Float
centred env mean t = get_or env t nan ⊖ mean

-- "centred products a lag apart"
unfoldable pub product_at : List Float → Float → ℕ → ℕ → Float
product_at env mean lag t = centred env mean t ⊗ centred env mean (t + lag)

-- their sum, over every t with both slots in the envelope
unfoldable pub lag_sum : List Float → Float → ℕ → Float
unfolding product_at
lag_sum env mean lag = sum_of (curve (product_at env mean lag) (length env - lag))

-- "the sum of squares about the mean ac0": the sum at lag 0
unfoldable pub energy_of : List Float → Float → Float
unfolding lag_sum
energy_of env mean = lag_sum env mean 0
