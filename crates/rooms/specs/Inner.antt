-- What the inner functions of an analysis ask: no promise of a public call is written in these words.
use Rattle.std.specs.Prelude.{ℕ, ◌≤◌, true, List, ◌≡◌, length, Float}
use Rattle.numbers.specs.Limits.{most_rows, value_fine}
use Rattle.numbers.specs.Lists.{every}
use Rattle.threshold.specs.Threshold.{sorting_room}
use Rattle.options.specs.declared.TempoOpts.{TempoOpts}
use Rattle.lags.specs.Lags.{bounds_fine}
use Rattle.rooms.specs.Rooms.{Results, Spare, lags_of}

-- what an analysis that is not refused has
pub record Ready (env : List Float) (rate : ℕ) (o : TempoOpts) (r : Results) (s : Spare) : Type 0 where
  pub rows : length env ≤ most_rows
  pub bounds : bounds_fine rate o ≡ true
  pub values : every value_fine env ≡ true
  pub thresholds : length env ≤ length r.threshold
  pub onset_lists : length env ≤ length r.onsets
  pub scores : length env ≤ length r.score
  pub links : length env ≤ length r.back
  pub beat_lists : length env ≤ length r.beats
  pub downbeat_lists : length env ≤ length r.downbeats
  pub clarities : lags_of rate o ≤ length r.clarity
  pub weights : lags_of rate o ≤ length r.weight
  pub window_clarities : lags_of rate o ≤ length s.window_clarity
  pub window_weights : lags_of rate o ≤ length s.window_weight
  pub lag_works : lags_of rate o ≤ length s.work
  pub window_works : sorting_room env ≤ length s.work
