-- Inner: what the parts of an analysis leave that follow from a tempo. No promise of a public call is written in these words.
use Rattle.std.specs.Prelude.{ℕ, List, ◌≡◌, length, Float}
use Rattle.numbers.specs.Lists.{listed}
use Rattle.numbers.specs.Outcomes.{Open}
use Rattle.options.specs.declared.TempoOpts.{TempoOpts}
use Rattle.lags.specs.Lags.{min_lag, max_lag}
use Rattle.stability.specs.Answers.{share_of, left_open}
use Rattle.beats.specs.Grids.{scores_of, links_of, grid_of}
use Rattle.bars.specs.Downbeats.{downbeats_of}
use Rattle.track_parts.specs.declared.Laid.{Laid}
use Rattle.track_parts.specs.declared.Following.{Following}

-- the downbeats among the beats at a period, in bars of so many beats
abbrev pub downbeats_at : List Float → (period meter : ℕ) → List ℕ
downbeats_at env period meter = downbeats_of env (grid_of env period) meter

-- the beats and the downbeats at a period
pub record Grid
    (env : List Float) (period meter : ℕ)
    (score : List Float) (back beats downbeats : List ℕ)
    (r : Laid) (score' : List Float) (back' beats' downbeats' : List ℕ) : Type 0 where
  pub beat_count : r.beats ≡ length (grid_of env period)
  pub downbeat_count : r.downbeats ≡ length (downbeats_at env period meter)
  pub score_is : score' ≡ listed (scores_of env period) score
  pub back_is : back' ≡ listed (links_of env period) back
  pub beats_are : beats' ≡ listed (grid_of env period) beats
  pub downbeats_are : downbeats' ≡ listed (downbeats_at env period meter) downbeats

-- what follows from the lag of a tempo
pub record Followed
    (env : List Float) (rate : ℕ) (o : TempoOpts) (lag : ℕ)
    (clarity weight score : List Float) (back beats downbeats : List ℕ) (work : List Float)
    (r : Following) (clarity' weight' score' : List Float) (back' beats' downbeats' : List ℕ) (work' : List Float) : Type 0 where
  pub steady : r.stability ≡ share_of env rate (min_lag rate o) (max_lag rate o) lag
  pub laid : Grid env lag o.meter score back beats downbeats (record { beats = r.beats; downbeats = r.downbeats }) score' back' beats' downbeats'
  pub clarities : Open (left_open (length env) (min_lag rate o) (max_lag rate o) lag) clarity clarity'
  pub weights : Open (left_open (length env) (min_lag rate o) (max_lag rate o) lag) weight weight'
  pub works : Open (left_open (length env) (min_lag rate o) (max_lag rate o) lag) work work'
