-- The C interface to `lag_range`, `estimate` and `stability_of`. Each promise is its last line; the record before it says how an answer is handed over.
use Rattle.std.specs.Prelude.{ℕ, List, length, Float}
use Rattle.options.specs.declared.TempoOpts.{TempoOpts}
use Rattle.lags.specs.Lags.{lag_range}
use Rattle.tempo.specs.Answers.{EstimateSaid, estimate_of, EstimatePromise}
use Rattle.stability.specs.Answers.{Steadiness, steadiness_of, StabilityPromise}
use Rattle.capi_answers.specs.Handed.{Handed}
use Rattle.capi_answers.specs.Tempos.{LagsLent, lag_parts, TempoLent, tempo_parts, ShareLent, share_parts}

-- what `ph_lag_range` promises: the lent numbers are both lags
abbrev pub PhLagRangePromise : (rate : ℕ) (o : TempoOpts) (lent₀ : LagsLent) (answer : ℕ) (lent : LagsLent) → Type 0
PhLagRangePromise rate o = Handed (lag_range rate o).number (lag_parts (lag_range rate o))

-- what `ph_estimate` promises, where `estimate` gives the answer `told`: the lent numbers are its parts, and the slices are as that call leaves them
pub record EstimateTold
    (told : EstimateSaid) (env : List Float) (onsets rate : ℕ) (o : TempoOpts) (clarity weight work : List Float) (lent₀ : TempoLent)
    (answer : ℕ) (clarity' weight' work' : List Float) (lent : TempoLent) : Type 0 where
  pub handed : Handed told.number (tempo_parts told) lent₀ answer lent
  pub slices : EstimatePromise env onsets rate o clarity weight work told clarity' weight' work'

abbrev pub PhEstimatePromise : (env : List Float) (onsets rate : ℕ) (o : TempoOpts) (clarity weight work : List Float) (lent₀ : TempoLent)
    (answer : ℕ) (clarity' weight' work' : List Float) (lent : TempoLent) → Type 0
PhEstimatePromise env onsets rate o clarity weight work =
    EstimateTold (estimate_of env onsets rate o (length clarity) (length weight) (length work)) env onsets rate o clarity weight work

-- what `ph_stability_of` promises, where `stability_of` gives the answer `told`, in the same words
pub record StabilityTold
    (told : Steadiness) (env : List Float) (rate : ℕ) (o : TempoOpts) (whole : ℕ) (clarity weight work : List Float) (lent₀ : ShareLent)
    (answer : ℕ) (clarity' weight' work' : List Float) (lent : ShareLent) : Type 0 where
  pub handed : Handed told.number (share_parts told.stability) lent₀ answer lent
  pub slices : StabilityPromise env rate o whole clarity weight work told clarity' weight' work'

abbrev pub PhStabilityPromise : (env : List Float) (rate : ℕ) (o : TempoOpts) (whole : ℕ) (clarity weight work : List Float) (lent₀ : ShareLent)
    (answer : ℕ) (clarity' weight' work' : List Float) (lent : ShareLent) → Type 0
PhStabilityPromise env rate o whole clarity weight work =
    StabilityTold (steadiness_of env rate o whole (length clarity) (length weight) (length work)) env rate o whole clarity weight work
