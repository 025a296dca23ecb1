-- What the parts of an analysis leave, put together. Assumes nothing.
use mathlib.Core.Path.{◌≡◌, refl, ◌∙◌}
use mathlib.Core.Bool.{true, ◌&&◌}
use mathlib.Core.List.{List}
use Prim.Native.Nat.{ℕ, zero, suc, ◌-◌, ◌≤◌}
use native.Mathlib.Omega.{arith}
use borrow.Author.Tests.{le-leb}
use lib.Dec.{leb}
use lib.ListN.{length, take, drop}
use lib.Ieee.{Float}
use Rattle.std.specs.Prelude.{Result, Ok, Err, IsOk}
use Rattle.numbers.specs.Outcomes.{Listing, listing}
use Rattle.numbers.specs.Refusals.{unless_refused}
use Rattle.numbers.specs.declared.Refusal.{Refusal}
use Rattle.numbers.specs.Limits.{most_rows, most_period, between, value_fine, frame_fine}
use Rattle.numbers.specs.Lists.{every, listed}
use Rattle.numbers.proofs.Tests.{and_both, lowest_0, passed_does}
use Rattle.numbers.proofs.Outcomes.{number-not_0}
use Rattle.beats.specs.Grids.{grid_numbers_fine, grid_room_fine, grid_refusal, grid_of, GridPromise}
use Rattle.beats.proofs.Steps.{beats-fit}
use Rattle.options.specs.Options.{most_meter, default_options, with_meter, options_fine}
use Rattle.bars.specs.Downbeats.{downbeat_refusal, DownbeatsPromise}
use Rattle.bars.specs.Downbeats as bars
use Rattle.track_parts.specs.Inner.{Grid}
use Rattle.track_parts.proofs.Lists.{listed_part, beats_listable}

module _
    (env : List Float) (period : ℕ) (few : length env ≤ most_rows) (fine : every value_fine env ≡ true) (short : period ≤ most_period) where
  pub grid_passed : (score back beats : ℕ) → length env ≤ score → length env ≤ back → length env ≤ beats → grid_refusal env period score back beats ≡ 0
  unfolding grid_refusal grid_numbers_fine grid_room_fine
  grid_passed score back beats s b f =
      lowest_0 (leb (length env) most_rows && leb period most_period) true (leb (length env) score && (leb (length env) back && leb (length env) beats))
      (every value_fine env)
      (and_both _ _ (le-leb _ _ few) (le-leb _ _ short)) refl
      (and_both _ _ (le-leb _ _ s) (and_both _ _ (le-leb _ _ b) (le-leb _ _ f)))
      fine

  pub downbeats_passed : (meter room : ℕ) → between 1 most_meter meter ≡ true → length env ≤ room
      → downbeat_refusal env (grid_of env period) (with_meter meter default_options) room ≡ 0
  unfolding downbeat_refusal bars.downbeat_numbers_fine bars.downbeat_room_fine options_fine
  downbeats_passed meter room barred h =
      lowest_0 (leb (length env) most_rows && (every frame_fine (grid_of env period) && between 1 most_meter meter)) true
      (leb (length (grid_of env period)) room)
      (every value_fine env)
      (and_both (leb (length env) most_rows) _ (le-leb _ _ few)
      (and_both (every frame_fine (grid_of env period)) (between 1 most_meter meter) (beats_listable env period few) barred)) refl
      (le-leb (length (grid_of env period)) room (omega (arith, beats-fit env period)))
      fine

-- an answer whose number is 0 is an Ok
listed-ok : (r : Result ℕ Refusal) → (listing r).number ≡ 0 → IsOk r
listed-ok (Ok n) z = refl
listed-ok (Err e) z = absurd (number-not_0 e z)

-- no more beats than frames, refused or not
pub beats-counted : (env : List Float) (period number count : ℕ) → count ≡ unless_refused number (length (grid_of env period)) 0 → count ≤ length env
beats-counted env period zero count e = omega (arith, beats-fit env period)
beats-counted env period (suc n) count e = omega arith

-- ---- both calls, of which neither refuses

module _
    (env : List Float) (period : ℕ) (score score' : List Float) (back back' beats beats' : List ℕ)
    (few : length env ≤ most_rows) (fine : every value_fine env ≡ true) (short : period ≤ most_period)
    (roomy : length env ≤ length score) (links : length env ≤ length back) (room : length env ≤ length beats) where
  none : grid_refusal env period (length score) (length back) (length beats) ≡ 0
  none = grid_passed env period few fine short _ _ _ roomy links room

  pub grid-ok : (r : Result ℕ Refusal) → GridPromise env period score back beats (listing r) score' back' beats' → IsOk r
  grid-ok r g = listed-ok r (g.number_is ∙ none)

  module _
      (r : Listing) (grid : GridPromise env period score back beats r score' back' beats')
      (meter : ℕ) (barred : between 1 most_meter meter ≡ true) (downbeats : List ℕ) (wide : length env ≤ length downbeats) where
    count_is : r.count ≡ length (grid_of env period)
    count_is = grid.count_is ∙ passed_does _ _ 0 none

    beats_are : beats' ≡ listed (grid_of env period) beats
    beats_are = grid.beats_are ∙ passed_does _ _ beats none

    -- the beats that are lent on
    abbrev lent : List ℕ
    lent = take (r.count - 0) (drop 0 beats')

    lent-beats : lent ≡ grid_of env period
    lent-beats = listed_part (grid_of env period) beats beats' r.count beats_are count_is

    passed : downbeat_refusal env (grid_of env period) (with_meter meter default_options) (length downbeats) ≡ 0
    passed = downbeats_passed env period few fine short meter (length downbeats) barred wide

    pub downbeats-ok : (q : Result ℕ Refusal) (downbeats' : List ℕ)
        → DownbeatsPromise env lent (with_meter meter default_options) downbeats (listing q) downbeats' → IsOk q
    downbeats-ok q downbeats' h = let k = rw lent-beats at h in listed-ok q (k.number_is ∙ passed)

    pub laid_by : (s : Listing) (downbeats' : List ℕ) → DownbeatsPromise env lent (with_meter meter default_options) downbeats s downbeats'
        → Grid env period meter score back beats downbeats (record { beats = r.count; downbeats = s.count }) score' back' beats' downbeats'
    laid_by s downbeats' h =
        let k = rw lent-beats at h in
        record {
          beat_count = count_is;
          downbeat_count = k.count_is ∙ passed_does _ _ 0 passed;
          score_is = grid.score_is ∙ passed_does _ _ score none;
          back_is = grid.back_is ∙ passed_does _ _ back none;
          beats_are = beats_are;
          downbeats_are = k.frames_are ∙ passed_does _ _ downbeats passed;
        }
