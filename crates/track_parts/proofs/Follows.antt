-- What follows from the lag of a tempo. Assumes nothing.
use mathlib.Core.Path.{◌≡◌, refl, sym, ap, ◌∙◌}
use mathlib.Core.Bool.{Bool, true, false, ◌&&◌, ◌||◌}
use mathlib.Core.List.{List, []}
use Prim.Native.Nat.{ℕ, ◌≤◌}
use borrow.Author.Tests.{le-leb}
use lib.Dec.{leb, eqb}
use lib.ListN.{length}
use lib.Ieee.{Float, le}
use Rattle.std.specs.Prelude.{Result, Ok, Err, IsOk}
use Rattle.numbers.specs.Limits.{most_rows, most_period, value_fine}
use Rattle.numbers.specs.declared.Refusal.{Refusal}
use Rattle.numbers.specs.Lists.{every, listed}
use Rattle.numbers.proofs.Tests.{and_both, lowest_0, passed_does, pick_true}
use Rattle.numbers.proofs.Tabs.{listed-none}
use Rattle.numbers.specs.Rounded.{epsilon}
use Rattle.options.specs.declared.TempoOpts.{TempoOpts}
use Rattle.lags.specs.Lags.{min_lag, max_lag, bounds_fine}
use Rattle.tempo.specs.Answers.{search_bounds, search_room, search_refusal}
use Rattle.stability.specs.declared.Stability.TheVariants.{None}
use Rattle.numbers.proofs.Outcomes.{number-not_0, open_same, open_told}
use Rattle.stability.specs.declared.Stability.{Stability}
use Rattle.stability.specs.Answers.{Steadiness, steadiness, stability_refusal, share_of, steadiness_of, StabilityPromise}
use Rattle.beats.specs.Envelopes.{variance_of, beatless}
use Rattle.beats.specs.Grids.{scores_of, links_of, grid_of}
use Rattle.bars.specs.Downbeats.{in_phase, downbeats_of}
use Rattle.track_parts.specs.declared.Laid.{Laid}
use Rattle.rooms.specs.Rooms.{lags_of}
use Rattle.track_parts.specs.Inner.{Grid, Followed}

-- ---- the parts are not refused

module _ (env : List Float) (rate : ℕ) (o : TempoOpts) (few : length env ≤ most_rows) (bounds : bounds_fine rate o ≡ true) (fine : every value_fine env ≡ true)
    (clarity weight work : ℕ) (c : lags_of rate o ≤ clarity) (w : lags_of rate o ≤ weight) (k : lags_of rate o ≤ work) where
  search_bounds_lem : search_bounds env rate o ≡ true
  unfolding search_bounds
  search_bounds_lem = and_both (leb (length env) most_rows) (bounds_fine rate o) (le-leb _ _ few) bounds

  search_room_lem : search_room rate o clarity weight work ≡ true
  unfolding search_room
  search_room_lem = and_both (leb (lags_of rate o) clarity) _ (le-leb _ _ c)
      (and_both (leb (lags_of rate o) weight) (leb (lags_of rate o) work) (le-leb _ _ w) (le-leb _ _ k))

  pub search_passed : search_refusal env rate o clarity weight work ≡ 0
  unfolding search_refusal
  search_passed = lowest_0 (search_bounds env rate o) true (search_room rate o clarity weight work) (every value_fine env) search_bounds_lem refl search_room_lem fine

  pub stability_passed : (lag : ℕ) → lag ≤ most_period → stability_refusal env rate o lag clarity weight work ≡ 0
  unfolding stability_refusal
  stability_passed lag h =
      lowest_0 (leb lag most_period && search_bounds env rate o) true (search_room rate o clarity weight work) (every value_fine env)
      (and_both (leb lag most_period) (search_bounds env rate o) (le-leb _ _ h) search_bounds_lem)
      refl
      search_room_lem
      fine

-- ---- without a tempo

module _ (env : List Float) where
  beatless_0 : beatless env 0 ≡ true
  unfolding beatless
  beatless_0 = or-true (eqb (length env) 0) (le (variance_of env) epsilon)
    where
      or-true : (a b : Bool) → (a || (true || b)) ≡ true
      or-true true b = refl
      or-true false b = refl

  no_scores : scores_of env 0 ≡ []
  unfolding scores_of
  no_scores = pick_true (beatless env 0) [] _ beatless_0

  no_links : links_of env 0 ≡ []
  unfolding links_of
  no_links = pick_true (beatless env 0) [] _ beatless_0

  no_beats : grid_of env 0 ≡ []
  unfolding grid_of
  no_beats = pick_true (beatless env 0) [] _ beatless_0

  no_downbeats : (meter : ℕ) → downbeats_of env (grid_of env 0) meter ≡ []
  unfolding downbeats_of in_phase
  no_downbeats meter = rw no_beats

  listed_empty : {A : Type 0} (es d : List A) → es ≡ [] → d ≡ listed es d
  listed_empty {A = A} es d e = sym (ap (λ (l : List A). listed l d) e ∙ listed-none d)

  grid-none : (meter : ℕ) (score : List Float) (back beats downbeats : List ℕ)
      → Grid env 0 meter score back beats downbeats (record { beats = 0; downbeats = 0 }) score back beats downbeats
  grid-none meter score back beats downbeats =
      record {
        beat_count = sym (ap length no_beats);
        downbeat_count = sym (ap length (no_downbeats meter));
        score_is = listed_empty _ score no_scores;
        back_is = listed_empty _ back no_links;
        beats_are = listed_empty _ beats no_beats;
        downbeats_are = listed_empty _ downbeats (no_downbeats meter);
      }

  share-none : (rate least most : ℕ) → None ≡ share_of env rate least most 0
  unfolding share_of
  share-none rate least most = refl

module _
    (env : List Float) (rate : ℕ) (o : TempoOpts) (lag : ℕ)
    (clarity weight score : List Float) (back beats downbeats : List ℕ) (work : List Float) where
  pub followed_none : lag ≡ 0
      → Followed env rate o lag clarity weight score back beats downbeats work (record { stability = None; beats = 0; downbeats = 0 }) clarity weight
      score back beats downbeats work
  followed_none z =
      rw z (record {
        steady = share-none env rate (min_lag rate o) (max_lag rate o);
        laid = grid-none env o.meter score back beats downbeats;
        clarities = open_same _ clarity;
        weights = open_same _ weight;
        works = open_same _ work;
      })

-- ---- with a tempo

-- an answer whose number is 0 is an Ok
steady-ok : (r : Result Stability Refusal) → (steadiness r).number ≡ 0 → IsOk r
steady-ok (Ok s) z = refl
steady-ok (Err e) z = absurd (number-not_0 e z)

module _
    (env : List Float) (rate : ℕ) (o : TempoOpts) (lag : ℕ) (clarity weight work : List Float)
    (few : length env ≤ most_rows) (bounds : bounds_fine rate o ≡ true) (fine : every value_fine env ≡ true) (short : lag ≤ most_period)
    (c : lags_of rate o ≤ length clarity) (w : lags_of rate o ≤ length weight) (k : lags_of rate o ≤ length work)
    (clarity' weight' work' : List Float) where
  none : stability_refusal env rate o lag (length clarity) (length weight) (length work) ≡ 0
  none = stability_passed env rate o few bounds fine (length clarity) (length weight) (length work) c w k lag short

  pub stability-ok : (r : Result Stability Refusal) → StabilityPromise env rate o lag clarity weight work (steadiness r) clarity' weight' work' → IsOk r
  unfolding steadiness_of
  stability-ok r s = steady-ok r (ap (λ (x : Steadiness). x.number) (s.answered ∙ passed_does _ _ _ none))

  pub followed_by : (score : List Float) (back beats downbeats : List ℕ) (steady : Steadiness) (laid : Laid)
      (score' : List Float) (back' beats' downbeats' : List ℕ)
      → StabilityPromise env rate o lag clarity weight work steady clarity' weight' work'
      → Grid env lag o.meter score back beats downbeats laid score' back' beats' downbeats'
      → Followed env rate o lag clarity weight score back beats downbeats work
      (record { stability = steady.stability; beats = laid.beats; downbeats = laid.downbeats })
      clarity' weight' score' back' beats' downbeats' work'
  unfolding steadiness_of
  followed_by score back beats downbeats steady laid score' back' beats' downbeats' s g =
      record {
        steady = ap (λ (x : Steadiness). x.stability) (s.answered ∙ passed_does _ _ _ none);
        laid = g;
        clarities = open_told _ _ clarity clarity' none s.clarities;
        weights = open_told _ _ weight weight' none s.weights;
        works = open_told _ _ work work' none s.works;
      }
