-- Document 01, Tempo and candidates: what `estimate` answers, and what it leaves in the slices that it is lent.
--
-- Read first `search_refusal`, when it refuses; then `tempo_of`, the tempo and the candidates of an envelope, by the lag curves of crate lag_search;
-- then `unwritten` and `curve_of`, what stands in a lent lag curve. `EstimatePromise`, the last, is the whole.
use Rattle.std.specs.Prelude.{ℕ, ◌+◌, Bool, true, ◌&&◌, ◌||◌, List, [], ◌∷◌, map, ◌≡◌, ltb, leb, length, get_or, Float, Result, Ok, Err}
use Rattle.std.specs.Float.{nan}
use Rattle.numbers.specs.Rounded.{nought, pick}
use Rattle.numbers.specs.Limits.{most_rows, value_fine}
use Rattle.numbers.specs.Refusals.{number, lowest, unless_refused}
use Rattle.numbers.specs.declared.Refusal.{Refusal}
use Rattle.numbers.specs.Lists.{every, filled, listed}
use Rattle.options.specs.declared.TempoOpts.{TempoOpts}
use Rattle.lags.specs.Lags.{min_lag, max_lag, lag_room, bounds_fine, bpm_at}
use Rattle.tempo.specs.declared.Candidate.{Candidate}
use Rattle.tempo.specs.declared.Tempo.{Tempo}
use Rattle.tempo.specs.declared.Tempo.TheVariants.{None, Found}
use Rattle.tempo.specs.declared.TempoEstimate.{TempoEstimate}
use Rattle.lag_candidates.specs.Candidates.{winner_of, candidates_of}
use Rattle.lag_search.specs.Search.{flat, clarity_rule, weight_rule, clarity_curve, weight_curve, winner_above}

-- ---- refusals

-- number 1: N, and of the rate and the options what `bounds_fine` looks at
unfoldable pub search_bounds : List Float → (rate : ℕ) → TempoOpts → Bool
unfolding bounds_fine
search_bounds env rate o = leb (length env) most_rows && bounds_fine rate o

-- number 3: "L slots for each of the two lag curves", and for sorting "L for tempo and stability"
unfoldable pub search_room : (rate : ℕ) → TempoOpts → (clarity weight work : ℕ) → Bool
unfolding min_lag max_lag
search_room rate o clarity weight work =
    let room = lag_room (min_lag rate o) (max_lag rate o) in leb room clarity && (leb room weight && leb room work)

-- the number, by the lengths of the slices that are lent
unfoldable pub search_refusal : List Float → (rate : ℕ) → TempoOpts → (clarity weight work : ℕ) → ℕ
unfolding search_bounds search_room
search_refusal env rate o clarity weight work =
    lowest (search_bounds env rate o) true (search_room rate o clarity weight work) (every value_fine env)

-- ---- the answer

-- "unused pairs hold zeros"
abbrev pub unused : Candidate
unused = record { lag = 0; salience = nought }

-- the pair of lag and clarity of a slot
abbrev pub candidate_at : (min_lag : ℕ) → List Float → ℕ → Candidate
candidate_at min_lag clarity i = record { lag = min_lag + i; salience = get_or clarity i nan }

-- "an array of three pairs": those of the slots first
unfoldable pub pairs_of : (min_lag : ℕ) → List Float → List ℕ → List Candidate
unfolding listed
pairs_of min_lag clarity slots = listed (map (candidate_at min_lag clarity) slots) (unused ∷ unused ∷ unused ∷ [])

-- what `estimate` says: its number, the tempo, and `count` candidates, the winner first
pub record EstimateSaid : Type 0 where
  pub number : ℕ
  pub tempo : Tempo
  pub candidates : List Candidate
  pub count : ℕ

-- no tempo, with the number of a refusal or 0
abbrev pub without_tempo : ℕ → EstimateSaid
without_tempo n = record { number = n; tempo = None; candidates = unused ∷ unused ∷ unused ∷ []; count = 0 }

-- by its answer: `Ok` is number 0 and its parts, `Err e` the number of e in the table, and no tempo
abbrev pub estimate_said : Result TempoEstimate Refusal → EstimateSaid
estimate_said (Ok e) = record { number = 0; tempo = e.tempo; candidates = e.candidates; count = e.count }
estimate_said (Err e) = without_tempo (number e)

-- "a tempo carrying its BPM and clarity", and the candidates, of a clarity and a weight curve
unfoldable pub found_of : (rate min_lag : ℕ) → (clarity weight : List Float) → EstimateSaid
unfolding bpm_at winner_of candidates_of pairs_of
found_of rate min_lag clarity weight =
    let winner = winner_of weight in
    let slots = candidates_of min_lag weight in
    record {
      number = 0;
      tempo = Found (bpm_at rate (min_lag + winner)) (get_or clarity winner nan);
      candidates = pairs_of min_lag clarity slots;
      count = length slots;
    }

-- "No tempo if n < 3, the onset count is below 2, n ≤ max_lag + 1": the envelope isn't searched
unfoldable pub too_little : (n onsets max_lag : ℕ) → Bool
too_little n onsets max_lag = ltb n 3 || (ltb onsets 2 || leb n (max_lag + 1))

-- ".. the sum of squares about the mean ac0 is at most 2^-52, or no weight is above 0. Only in the last case are the lag curves written",
-- and where there is a tempo
unfoldable pub unwritten : List Float → (onsets max_lag : ℕ) → Bool
unfolding too_little flat
unwritten env onsets max_lag = too_little (length env) onsets max_lag || flat env

-- the answer where nothing is refused
unfoldable pub tempo_of : List Float → (onsets rate min_lag max_lag : ℕ) → EstimateSaid
unfolding unwritten winner_above found_of
tempo_of env onsets rate min_lag max_lag =
    let clarity = clarity_curve env min_lag max_lag in
    let weight = weight_curve env rate min_lag max_lag in
    pick (unwritten env onsets max_lag) (without_tempo 0)
    (pick (winner_above weight) (found_of rate min_lag clarity weight) (without_tempo 0))

-- a lent lag curve where nothing is refused, by its rule
unfoldable pub curve_of : (ℕ → Float) → List Float → (untouched : Bool) → (room : ℕ) → List Float
unfolding filled
curve_of rule was untouched room = pick untouched was (filled rule was 0 room)

-- what it says
unfoldable pub estimate_of : List Float → (onsets rate : ℕ) → TempoOpts → (clarity weight work : ℕ) → EstimateSaid
unfolding search_refusal tempo_of min_lag max_lag
estimate_of env onsets rate o clarity weight work =
    let k = search_refusal env rate o clarity weight work in
    unless_refused k (tempo_of env onsets rate (min_lag rate o) (max_lag rate o)) (without_tempo k)

-- The promise of `estimate`: its answer, both lag curves and the work slice afterwards, for every input. The winner and the candidates are
-- found without a sort, so the work slice is as it was.
pub record EstimatePromise
    (env : List Float) (onsets rate : ℕ) (o : TempoOpts) (clarity weight work : List Float)
    (answer : EstimateSaid) (clarity' weight' work' : List Float) : Type 0 where
  pub answered : answer ≡ estimate_of env onsets rate o (length clarity) (length weight) (length work)
  pub clarities :
      clarity' ≡
      unless_refused (search_refusal env rate o (length clarity) (length weight) (length work))
      (curve_of (clarity_rule env (min_lag rate o)) clarity (unwritten env onsets (max_lag rate o)) (lag_room (min_lag rate o) (max_lag rate o)))
      clarity
  pub weights :
      weight' ≡
      unless_refused (search_refusal env rate o (length clarity) (length weight) (length work))
      (curve_of (weight_rule env rate (min_lag rate o)) weight (unwritten env onsets (max_lag rate o)) (lag_room (min_lag rate o) (max_lag rate o)))
      weight
  pub unsorted : work' ≡ work
