-- Document 01, "Room: N slots for flux, threshold, score, back links, onset and beat lists; one per listed frame for .. downbeats;
-- L = max_lag - min_lag + 1 slots for each of the two lag curves .. and two more for stability; .. for sorting min(21, N) for
-- thresholds, L for tempo and stability": the room of one whole analysis, and the number that it is refused with.
use Rattle.std.specs.Prelude.{ℕ, max, Bool, true, ◌&&◌, List, [], ◌∷◌, leb, length, Float, Result, Ok, Err}
use Rattle.numbers.specs.Rounded.{pick}
use Rattle.numbers.specs.Limits.{most_rows, magnitude_fine, value_fine, slab_fine, slab_whole}
use Rattle.numbers.specs.Refusals.{number, out_of_bounds, lowest}
use Rattle.numbers.specs.declared.Refusal.{Refusal}
use Rattle.numbers.specs.Lists.{every}
use Rattle.numbers.specs.declared.Slab.{Slab}
use Rattle.threshold.specs.Threshold.{window_room}
use Rattle.options.specs.declared.TempoOpts.{TempoOpts}
use Rattle.lags.specs.Lags.{min_lag, max_lag, lag_room, bounds_fine}
use Rattle.rooms.specs.declared.Room.{Room}

-- ---- what is lent

-- the slices that hold the results: N slots each, and L each for the two lag curves
pub record Results : Type 0 where
  pub threshold : List Float
  pub onsets : List ℕ
  pub clarity : List Float
  pub weight : List Float
  pub score : List Float
  pub back : List ℕ
  pub beats : List ℕ
  pub downbeats : List ℕ

-- the slices that are worked in: L slots each for stability's lag curves, and the room to sort in
pub record Spare : Type 0 where
  pub window_clarity : List Float
  pub window_weight : List Float
  pub work : List Float

abbrev pub results : (threshold : List Float) (onsets : List ℕ) (clarity weight score : List Float) (back beats downbeats : List ℕ) → Results
results threshold onsets clarity weight score back beats downbeats =
    record {
      threshold = threshold;
      onsets = onsets;
      clarity = clarity;
      weight = weight;
      score = score;
      back = back;
      beats = beats;
      downbeats = downbeats;
    }

abbrev pub spare : (window_clarity window_weight work : List Float) → Spare
spare window_clarity window_weight work = record { window_clarity = window_clarity; window_weight = window_weight; work = work }

-- the lengths of those with a slot for each frame, and of those with a slot for each lag
abbrev pub frame_slots : Results → List ℕ
frame_slots r =
    length r.threshold ∷ length r.onsets ∷ length r.score ∷ length r.back ∷ length r.beats ∷ length r.downbeats ∷ []

abbrev pub lag_slots : Results → Spare → List ℕ
lag_slots r s = length r.clarity ∷ length r.weight ∷ length s.window_clarity ∷ length s.window_weight ∷ []

-- ---- the room

-- L, the slots of a lag curve
abbrev pub lags_of : (rate : ℕ) → TempoOpts → ℕ
lags_of rate o = lag_room (min_lag rate o) (max_lag rate o)

-- the slots of work, which the thresholds' windows, the tempo and stability's windows ask for one after the other
abbrev pub sorting_of : (rows lags : ℕ) → ℕ
sorting_of rows lags = max lags (window_room rows)

-- what number 1 looks at: N, and of the rate and the options what `bounds_fine` does
unfoldable pub analysis_numbers_fine : (rows rate : ℕ) → TempoOpts → Bool
unfolding bounds_fine
analysis_numbers_fine rows rate o = leb rows most_rows && bounds_fine rate o

-- what `room_of` says: its number, and the slots
pub record RoomSaid : Type 0 where
  pub number : ℕ
  pub rows : ℕ
  pub lags : ℕ
  pub sorting : ℕ

-- by its answer: `Ok` is number 0 and the room, `Err e` the number of e in the table, and zeros
abbrev pub room_said : Result Room Refusal → RoomSaid
room_said (Ok room) = record { number = 0; rows = room.rows; lags = room.lags; sorting = room.sorting }
room_said (Err e) = record { number = number e; rows = 0; lags = 0; sorting = 0 }

-- what it says: the formula, or number 1 and zeros
unfoldable pub room_of : (rows rate : ℕ) → TempoOpts → RoomSaid
unfolding analysis_numbers_fine min_lag max_lag
room_of rows rate o =
    pick (analysis_numbers_fine rows rate o)
    (record { number = 0; rows = rows; lags = lags_of rate o; sorting = sorting_of rows (lags_of rate o) })
    (record { number = out_of_bounds; rows = 0; lags = 0; sorting = 0 })

-- ---- refusal

-- number 3: each length of both kinds, and that of the sorting room, is at least what the room names
unfoldable pub suffices : RoomSaid → (frames lags : List ℕ) → (work : ℕ) → Bool
unfolding every
suffices room frames lags work = every (leb room.rows) frames && (every (leb room.lags) lags && leb room.sorting work)

-- the number of `analyse_envelope`, by the lengths that are lent
unfoldable pub envelope_refusal : List Float → (rate : ℕ) → TempoOpts → (frames lags : List ℕ) → (work : ℕ) → ℕ
unfolding analysis_numbers_fine room_of suffices
envelope_refusal env rate o frames lags work =
    lowest (analysis_numbers_fine (length env) rate o) true (suffices (room_of (length env) rate o) frames lags work) (every value_fine env)

-- the number of `analyse_magnitudes`: the whole shape is looked at, the length, and room for the flux
unfoldable pub magnitudes_refusal : List Float → Slab → (rate : ℕ) → TempoOpts → (flux : ℕ) → (frames lags : List ℕ) → (work : ℕ) → ℕ
unfolding bounds_fine room_of suffices
magnitudes_refusal magnitudes slab rate o flux frames lags work =
    lowest (slab_fine slab && bounds_fine rate o) (slab_whole slab (length magnitudes))
    (leb slab.rows flux && suffices (room_of slab.rows rate o) frames lags work)
    (every magnitude_fine magnitudes)

-- the same, of what is lent
abbrev pub envelope_number : List Float → (rate : ℕ) → TempoOpts → Results → Spare → ℕ
envelope_number env rate o r s = envelope_refusal env rate o (frame_slots r) (lag_slots r s) (length s.work)

abbrev pub magnitudes_number : List Float → Slab → (rate : ℕ) → TempoOpts → (flux : List Float) → Results → Spare → ℕ
magnitudes_number magnitudes slab rate o flux r s =
    magnitudes_refusal magnitudes slab rate o (length flux) (frame_slots r) (lag_slots r s) (length s.work)
