-- The C interface to `beat_grid` and `bar_beat_at`; that to `downbeats` stands in Lists.
use Rattle.std.specs.Prelude.{ℕ, List, length, Float}
use Rattle.numbers.specs.Refusals.{unless_refused}
use Rattle.beats.specs.Grids.{grid_of, grid_refusal, GridPromise}
use Rattle.bars.specs.BarBeats.{bar_and_beat}
use Rattle.capi_answers.specs.Handed.{Handed}
use Rattle.capi_answers.specs.Grids.{Placed}

-- What `ph_beat_grid` promises: the lent count is how many beats there are, and the slices are as `beat_grid` leaves them.
pub record PhGridPromise
    (envelope : List Float) (period : ℕ) (score₀ : List Float) (back₀ beats₀ : List ℕ) (count₀ answer : ℕ) (score : List Float) (back beats : List ℕ)
    (count : ℕ) : Type 0 where
  pub handed : Handed (grid_refusal envelope period (length score₀) (length back₀) (length beats₀)) (length (grid_of envelope period)) count₀ answer count
  pub slices :
      GridPromise envelope period score₀ back₀ beats₀
      (record {
        number = answer;
        count = unless_refused (grid_refusal envelope period (length score₀) (length back₀) (length beats₀)) (length (grid_of envelope period)) 0;
      })
      score back beats

-- what `ph_bar_beat_at` promises: the lent numbers are the values that the answer of `bar_beat_at` says
abbrev pub PhBarBeatPromise : (time : Float) (downbeats beats : List Float) (answer found bar beat : ℕ) → Type 0
PhBarBeatPromise time downbeats beats = Placed (0, bar_and_beat time downbeats beats)
