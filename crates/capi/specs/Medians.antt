-- The C interface to `median_of` and `mad_of`.
use Rattle.std.specs.Prelude.{ℕ, List, length, Float}
use Rattle.numbers.specs.Outcomes.{OpenUnless}
use Rattle.median.specs.Median.{median_of, mad_of}
use Rattle.median.specs.Answers.{median_refusal, mad_refusal}
use Rattle.capi_answers.specs.Handed.{Handed}

-- What both promise: the lent number is the value, and the work slice is as the proved call leaves it.
pub record Valued (number : ℕ) (v : Float) (xs was : List Float) (value₀ : Float) (answer : ℕ) (work : List Float) (value : Float) : Type 0 where
  pub handed : Handed number v value₀ answer value
  pub works : OpenUnless number (length xs) was work

-- what `ph_median_of` promises
abbrev pub PhMedianPromise : (xs was : List Float) (value₀ : Float) (answer : ℕ) (work : List Float) (value : Float) → Type 0
PhMedianPromise xs was = Valued (median_refusal xs (length was)) (median_of xs) xs was

-- what `ph_mad_of` promises
abbrev pub PhMadPromise : (xs : List Float) (m : Float) (was : List Float) (value₀ : Float) (answer : ℕ) (work : List Float) (value : Float) → Type 0
PhMadPromise xs m was = Valued (mad_refusal xs m (length was)) (mad_of xs m) xs was
