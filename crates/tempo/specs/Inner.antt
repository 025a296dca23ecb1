-- What the inner functions promise each other: no promise of a public call is written in these words.
use Rattle.std.specs.Prelude.{ℕ, List, ◌≡◌, Float}
use Rattle.lags.specs.Lags.{lag_room}
use Rattle.lag_search.specs.Search.{clarity_rule, weight_rule}
use Rattle.tempo.specs.Answers.{EstimateSaid, unwritten, tempo_of, curve_of}

-- What an accepted call answers and leaves in the lag curves' room.
pub record TempoIn
    (env : List Float) (onsets rate min_lag max_lag : ℕ) (clarity weight : List Float)
    (answer : EstimateSaid) (clarity' weight' : List Float) : Type 0 where
  pub answered : answer ≡ tempo_of env onsets rate min_lag max_lag
  pub clarities : clarity' ≡ curve_of (clarity_rule env min_lag) clarity (unwritten env onsets max_lag) (lag_room min_lag max_lag)
  pub weights : weight' ≡ curve_of (weight_rule env rate min_lag) weight (unwritten env onsets max_lag) (lag_room min_lag max_lag)
