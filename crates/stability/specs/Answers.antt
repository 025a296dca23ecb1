-- Document 01, Tempo and candidates, "Stability": what `stability_of` answers, and what it leaves in the slices that it is lent.
--
-- Read first `stability_refusal`, when it refuses; then `share_of`, the stability of an envelope, by the windows of Windows; then `left_open`, how many
-- slots of each lent slice it leaves open. `StabilityPromise`, the last, is the whole.
use Rattle.std.specs.Prelude.{ℕ, true, ◌&&◌, ◌||◌, List, ◌≡◌, ltb, leb, eqb, length, Float, Result, Ok, Err}
use Rattle.numbers.specs.Rounded.{◌⊘◌, real, pick}
use Rattle.numbers.specs.Limits.{most_period, value_fine}
use Rattle.numbers.specs.Refusals.{number, lowest, unless_refused}
use Rattle.numbers.specs.declared.Refusal.{Refusal}
use Rattle.numbers.specs.Lists.{every}
use Rattle.numbers.specs.Outcomes.{OpenUnless}
use Rattle.options.specs.declared.TempoOpts.{TempoOpts}
use Rattle.lags.specs.Lags.{min_lag, max_lag, lag_room}
use Rattle.tempo.specs.Answers.{search_bounds, search_room}
use Rattle.stability.specs.declared.Stability.{Stability}
use Rattle.stability.specs.declared.Stability.TheVariants.{None, Share}
use Rattle.stability.specs.Windows.{windows_of, agreeing_to}

-- the number: what `estimate` looks at, and the whole lag, which is bounded as a period
unfoldable pub stability_refusal : List Float → (rate : ℕ) → TempoOpts → (whole clarity weight work : ℕ) → ℕ
unfolding search_bounds search_room
stability_refusal env rate o whole clarity weight work =
    lowest (leb whole most_period && search_bounds env rate o) true (search_room rate o clarity weight work) (every value_fine env)

-- "below 2, none"; "No tempo: no stability", where whole lag 0 stands for no tempo. "Answer: agreeing/w, with both counts."
unfoldable pub share_of : List Float → (rate min_lag max_lag whole : ℕ) → Stability
unfolding windows_of agreeing_to
share_of env rate min_lag max_lag whole =
    let w = windows_of (length env) max_lag in
    let agreeing = agreeing_to env rate min_lag max_lag whole w w in
    pick (eqb whole 0 || ltb w 2) None (Share (real agreeing ⊘ real w) agreeing w)

-- how many windows of a stability agree, and how many there are: none of each without one
abbrev pub agreeing_in : Stability → ℕ
agreeing_in None = 0
agreeing_in (Share fraction agreeing windows) = agreeing

abbrev pub windows_in : Stability → ℕ
windows_in None = 0
windows_in (Share fraction agreeing windows) = windows

-- the slots of each lent slice that are left open: one a lag where windows are searched, and none where there is no stability
unfoldable pub left_open : (n min_lag max_lag whole : ℕ) → ℕ
unfolding windows_of
left_open n min_lag max_lag whole = pick (eqb whole 0 || ltb (windows_of n max_lag) 2) 0 (lag_room min_lag max_lag)

-- what `stability_of` says: its number, and the stability
pub record Steadiness : Type 0 where
  pub number : ℕ
  pub stability : Stability

-- no stability, with the number of a refusal or 0
abbrev pub without_stability : ℕ → Steadiness
without_stability n = record { number = n; stability = None }

-- by its answer: `Ok` is number 0 and the stability, `Err e` the number of e in the table, and none
abbrev pub steadiness : Result Stability Refusal → Steadiness
steadiness (Ok s) = record { number = 0; stability = s }
steadiness (Err e) = without_stability (number e)

-- what it says
unfoldable pub steadiness_of : List Float → (rate : ℕ) → TempoOpts → (whole clarity weight work : ℕ) → Steadiness
unfolding stability_refusal share_of min_lag max_lag
steadiness_of env rate o whole clarity weight work =
    let k = stability_refusal env rate o whole clarity weight work in
    unless_refused k (record { number = 0; stability = share_of env rate (min_lag rate o) (max_lag rate o) whole }) (without_stability k)

-- The promise of `stability_of`: its answer is determined by the input. Where windows are searched, what the first slots of each lent slice hold
-- afterwards, one a lag, is left open, since no caller has a use for it: in the lag curves' room each window's curves go over those of the window
-- before, but for a flat window, which writes none; in the work slice stand the priors that all of them are weighed by. Where no window is
-- searched, every slot is as it was.
pub record StabilityPromise
    (env : List Float) (rate : ℕ) (o : TempoOpts) (whole : ℕ) (clarity weight work : List Float)
    (answer : Steadiness) (clarity' weight' work' : List Float) : Type 0 where
  pub answered : answer ≡ steadiness_of env rate o whole (length clarity) (length weight) (length work)
  pub clarities :
      OpenUnless
      (stability_refusal env rate o whole (length clarity) (length weight) (length work)) (left_open (length env) (min_lag rate o) (max_lag rate o) whole)
      clarity clarity'
  pub weights :
      OpenUnless
      (stability_refusal env rate o whole (length clarity) (length weight) (length work)) (left_open (length env) (min_lag rate o) (max_lag rate o) whole)
      weight weight'
  pub works :
      OpenUnless
      (stability_refusal env rate o whole (length clarity) (length weight) (length work)) (left_open (length env) (min_lag rate o) (max_lag rate o) whole)
      work work'
