-- Document 01, Tempo and candidates: the two lag curves, clarity and weight. Slot i of a curve is the lag min_lag + i.
use Rattle.std.specs.Prelude.{ℕ, ◌+◌, ◌-◌, List, length, get_or, Float}
use Rattle.std.specs.Float.{nan}
use Rattle.std.specs.Float.Ieee.{neg}
use Rattle.numbers.specs.Rounded.{◌⊗◌, ◌⊘◌, bits, real, nought, held, one, half}
use Rattle.floats.specs.Logs.{log2_of}
use Rattle.floats.specs.Exps.{exp_of}
use Rattle.lags.specs.Lags.{bpm_at}
use Rattle.lag_sums.specs.Sums.{lag_sum}

-- "Clarity at a lag: (sum·n)/(ac0·(n-lag)) .. held to 0..1", where the envelope has n slots
unfoldable pub clarity_of : Float → Float → ℕ → ℕ → Float
unfolding held
clarity_of sum ac0 n lag = held nought one (sum ⊗ real n ⊘ (ac0 ⊗ real (n - lag)))

unfoldable pub clarity_at : List Float → (mean ac0 : Float) → ℕ → Float
unfolding lag_sum clarity_of
clarity_at env mean ac0 lag = clarity_of (lag_sum env mean lag) ac0 (length env) lag

-- 120, the tempo that is preferred
abbrev pub likeliest : Float
likeliest = bits 0x405E_0000_0000_0000

-- 1.3, the width of the preference, in octaves
abbrev pub likely_width : Float
likely_width = bits 0x3FF4_CCCC_CCCC_CCCD

-- "exp(-0.5·z·z), z = log2(bpm/120)/1.3"
unfoldable pub prior_of : Float → Float
prior_of bpm = let z = log2_of (bpm ⊘ likeliest) ⊘ likely_width in exp_of (neg half ⊗ z ⊗ z)

-- "with bpm = f·60/lag"
unfoldable pub prior_at : ℕ → ℕ → Float
unfolding prior_of
prior_at rate lag = prior_of (bpm_at rate lag)

-- the clarity "weighted by" the prior
unfoldable pub weight_at : List Float → (mean ac0 : Float) → (rate lag : ℕ) → Float
unfolding clarity_at prior_at
weight_at env mean ac0 rate lag = clarity_at env mean ac0 lag ⊗ prior_at rate lag

-- the rules of the curves, from the lag min_lag on
abbrev pub clarity_from : List Float → (mean ac0 : Float) → (min_lag : ℕ) → ℕ → Float
clarity_from env mean ac0 min_lag i = clarity_at env mean ac0 (min_lag + i)

abbrev pub weight_from : List Float → (mean ac0 : Float) → (rate min_lag : ℕ) → ℕ → Float
weight_from env mean ac0 rate min_lag i = weight_at env mean ac0 rate (min_lag + i)

abbrev pub prior_from : (rate min_lag : ℕ) → ℕ → Float
prior_from rate min_lag i = prior_at rate (min_lag + i)

-- the rules of the weights of a clarity curve: by the rate, and by a curve of priors
abbrev pub weighted : List Float → (rate min_lag : ℕ) → ℕ → Float
weighted clarity rate min_lag i = get_or clarity i nan ⊗ prior_at rate (min_lag + i)

abbrev pub weighted_by : (clarity priors : List Float) → ℕ → Float
weighted_by clarity priors i = get_or clarity i nan ⊗ get_or priors i nan
