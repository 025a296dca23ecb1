-- What the inner functions promise each other: no promise of a public call is written in these words.
use Rattle.std.specs.Prelude.{ℕ, ◌≤◌, List, ◌≡◌, length, Float}
use Rattle.numbers.specs.Lists.{filled}
use Rattle.numbers.specs.Outcomes.{Open}
use Rattle.lags.specs.Lags.{lag_room}
use Rattle.lag_curves.specs.Curves.{prior_from}
use Rattle.lag_search.specs.Search.{winning_lag}
use Rattle.stability.specs.declared.Stability.{Stability}
use Rattle.stability.specs.Windows.{agreeing_to}
use Rattle.stability.specs.Answers.{share_of, left_open}

-- One window's search, with the priors given. The lag that is found is the winner's, at whichever rate the priors are those of.
pub record WindowSearched
    (window priors : List Float) (min_lag max_lag : ℕ) (clarity weight : List Float) (lag : ℕ) (clarity' weight' : List Float) : Type 0 where
  pub winner :
      (rate : ℕ) (was : List Float) → lag_room min_lag max_lag ≤ length was → priors ≡ filled (prior_from rate min_lag) was 0 (lag_room min_lag max_lag)
      → lag ≡ winning_lag window rate min_lag max_lag
  pub clarities : Open (lag_room min_lag max_lag) clarity clarity'
  pub weights : Open (lag_room min_lag max_lag) weight weight'

-- The agreeing windows are counted, and the lag room is left open.
pub record Counted
    (env : List Float) (rate min_lag max_lag whole w : ℕ) (clarity weight work : List Float)
    (agreeing : ℕ) (clarity' weight' work' : List Float) : Type 0 where
  pub count : agreeing ≡ agreeing_to env rate min_lag max_lag whole w w
  pub clarities : Open (lag_room min_lag max_lag) clarity clarity'
  pub weights : Open (lag_room min_lag max_lag) weight weight'
  pub works : Open (lag_room min_lag max_lag) work work'

-- What an accepted call answers, and leaves of the slices that it is lent.
pub record Shared
    (env : List Float) (rate min_lag max_lag whole : ℕ) (clarity weight work : List Float)
    (answer : Stability) (clarity' weight' work' : List Float) : Type 0 where
  pub answered : answer ≡ share_of env rate min_lag max_lag whole
  pub clarities : Open (left_open (length env) min_lag max_lag whole) clarity clarity'
  pub weights : Open (left_open (length env) min_lag max_lag whole) weight weight'
  pub works : Open (left_open (length env) min_lag max_lag whole) work work'
