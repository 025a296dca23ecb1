-- What the inner functions ask: the room that is lent from one to the next.
use Rattle.std.specs.Prelude.{ℕ, ◌≡◌, List, length, Float}
use Rattle.report.specs.Input.{most_reported}

-- a slot for each lag at rate 48,000 and the defaults, 38 to 375
abbrev pub most_lags : ℕ
most_lags = 338

-- the curves that an analysis is lent
pub record CurvesLent (threshold clarity weight window_clarity window_weight score work : List Float) : Type 0 where
  pub thresholds : length threshold ≡ most_reported
  pub clarities : length clarity ≡ most_lags
  pub weights : length weight ≡ most_lags
  pub window_clarities : length window_clarity ≡ most_lags
  pub window_weights : length window_weight ≡ most_lags
  pub scores : length score ≡ most_reported
  pub works : length work ≡ most_lags

-- the lists that it is lent
pub record ListsLent (onsets back beats downbeats : List ℕ) : Type 0 where
  pub onset_lists : length onsets ≡ most_reported
  pub links : length back ≡ most_reported
  pub beat_lists : length beats ≡ most_reported
  pub downbeat_lists : length downbeats ≡ most_reported
