-- Document 01, Tempo and candidates: the search of an envelope for the lag that wins.
use Rattle.std.specs.Prelude.{ℕ, ◌+◌, Bool, List, ◌≡◌, get_or, Float}
use Rattle.std.specs.Float.{nan}
use Rattle.std.specs.Float.Ieee.{lt, le}
use Rattle.numbers.specs.Rounded.{nought, pick, epsilon}
use Rattle.numbers.specs.Lists.{curve, filled}
use Rattle.lists.specs.Means.{mean_of}
use Rattle.lags.specs.Lags.{lag_room}
use Rattle.lag_sums.specs.Sums.{energy_of}
use Rattle.lag_curves.specs.Curves.{clarity_from, weight_from}
use Rattle.lag_candidates.specs.Candidates.{winner_of}

-- "the sum of squares about the mean ac0"
abbrev pub ac0_of : List Float → Float
ac0_of env = energy_of env (mean_of env)

-- it "is at most 2^-52"
unfoldable pub flat : List Float → Bool
unfolding mean_of energy_of
flat env = le (ac0_of env) epsilon

-- the rules of an envelope's lag curves
abbrev pub clarity_rule : List Float → (min_lag : ℕ) → ℕ → Float
clarity_rule env min_lag = clarity_from env (mean_of env) (ac0_of env) min_lag

abbrev pub weight_rule : List Float → (rate min_lag : ℕ) → ℕ → Float
weight_rule env rate min_lag = weight_from env (mean_of env) (ac0_of env) rate min_lag

-- the curves, one slot a lag
abbrev pub clarity_curve : List Float → (min_lag max_lag : ℕ) → List Float
clarity_curve env min_lag max_lag = curve (clarity_rule env min_lag) (lag_room min_lag max_lag)

abbrev pub weight_curve : List Float → (rate min_lag max_lag : ℕ) → List Float
weight_curve env rate min_lag max_lag = curve (weight_rule env rate min_lag) (lag_room min_lag max_lag)

-- some weight is above 0: the first greatest is
unfoldable pub winner_above : List Float → Bool
unfolding winner_of
winner_above ws = lt nought (get_or ws (winner_of ws) nan)

-- the winner's lag, or 0 where no weight is above 0
unfoldable pub winner_lag : (min_lag : ℕ) → List Float → ℕ
unfolding winner_above
winner_lag min_lag ws = pick (winner_above ws) (min_lag + winner_of ws) 0

-- the same of an envelope: 0 where it is flat too
unfoldable pub winning_lag : List Float → (rate min_lag max_lag : ℕ) → ℕ
unfolding flat winner_lag
winning_lag env rate min_lag max_lag = pick (flat env) 0 (winner_lag min_lag (weight_curve env rate min_lag max_lag))

-- What a search answers and leaves in the lag curves' room: the curves, unless the envelope is flat; slots past them stay.
pub record Searched (env : List Float) (rate min_lag max_lag : ℕ) (clarity weight : List Float) (lag : ℕ) (clarity' weight' : List Float) : Type 0 where
  pub winner : lag ≡ winning_lag env rate min_lag max_lag
  pub clarities : clarity' ≡ pick (flat env) clarity (filled (clarity_rule env min_lag) clarity 0 (lag_room min_lag max_lag))
  pub weights : weight' ≡ pick (flat env) weight (filled (weight_rule env rate min_lag) weight 0 (lag_room min_lag max_lag))
