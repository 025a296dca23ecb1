-- Document 01, Tempo and candidates, "Stability": the windows of an envelope, and which of them agree with the whole lag.
use Rattle.std.specs.Prelude.{ℕ, zero, suc, ◌+◌, ◌/◌, min, Bool, false, List, eqb, length, Float}
use Rattle.numbers.specs.Rounded.{pick}
use Rattle.numbers.specs.Lists.{row, one_if}
use Rattle.lags.specs.Pairs.{agrees}
use Rattle.lag_search.specs.Search.{winning_lag}

-- "w = min(4, n div (max_lag+2))"
unfoldable pub windows_of : (n max_lag : ℕ) → ℕ
windows_of n max_lag = min 4 (n / (max_lag + 2))

-- "Windows have n div w slots; the tail is dropped": window k of w
unfoldable pub window_at : List Float → (w k : ℕ) → List Float
unfolding row
window_at env w k = row env (length env / w) k

-- "A window agrees if its own winner" does with the whole lag; one "with no tempo doesn't agree"
unfoldable pub window_agrees : List Float → (rate min_lag max_lag whole : ℕ) → Bool
unfolding winning_lag agrees
window_agrees window rate min_lag max_lag whole =
    let lag = winning_lag window rate min_lag max_lag in pick (eqb lag 0) false (agrees whole lag)

-- how many of the first k windows agree
unfoldable pub agreeing_to : List Float → (rate min_lag max_lag whole w k : ℕ) → ℕ
unfolding window_at window_agrees
agreeing_to env rate min_lag max_lag whole w zero = 0
agreeing_to env rate min_lag max_lag whole w (suc k) =
    agreeing_to env rate min_lag max_lag whole w k + one_if (window_agrees (window_at env w k) rate min_lag max_lag whole)
