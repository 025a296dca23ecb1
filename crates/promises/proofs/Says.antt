-- What an answer says tells which it is: where two answers of a call say the same, by the definition that its promise is stated in, they are one
-- `Result`. So where Determined.antt says that two outcomes say the same, they coincide. Assumes nothing.
use mathlib.Core.Path.{◌≡◌, sym, ap}
use Prim.Native.Nat.{ℕ}
use Rattle.std.specs.Prelude.{Result, Ok, Err}
use Rattle.numbers.specs.Refusals.{number_of}
use Rattle.numbers.specs.Outcomes.{listing, Listing}
use Rattle.numbers.specs.declared.Refusal.{Refusal}
use Rattle.numbers.proofs.Outcomes.{number-one, number-not_0}
use Rattle.lags.specs.Lags.{LagsSaid, lags_said}
use Rattle.lags.specs.declared.LagRange.{LagRange}
use Rattle.tempo.specs.Answers.{EstimateSaid, estimate_said}
use Rattle.tempo.specs.declared.TempoEstimate.{TempoEstimate}
use Rattle.stability.specs.Answers.{Steadiness, steadiness}
use Rattle.stability.specs.declared.Stability.{Stability}
use Rattle.rooms.specs.Rooms.{RoomSaid, room_said}
use Rattle.rooms.specs.declared.Room.{Room}
use Rattle.track.specs.Analyses.{AnalysisSaid, analysis_said}
use Rattle.track.specs.declared.Analysis.{Analysis}
use Rattle.sections.specs.Outcomes.{SectionsSaid, sections_said}
use Rattle.sections.specs.declared.Sections.{Sections}

-- an answer that is a number alone: `spectral_flux`, `adaptive_threshold`, `frame_times`, `similarity`, `novelty`, `boundary_times`, `feature_rows`.
-- Its `Ok` holds a value of a type that has but one
pub number_says : {A : Type 0} → ((x y : A) → x ≡ y) → (a b : Result A Refusal) → number_of a ≡ number_of b → a ≡ b
number_says one (Ok x) (Ok y) e = cc (one x y)
number_says one (Err x) (Err y) e = cc (number-one x y e)
number_says one (Ok x) (Err y) e = absurd (number-not_0 y (sym e))
number_says one (Err x) (Ok y) e = absurd (number-not_0 x e)

-- a call that lists, or writes the bytes of a file
pub listing_says : (a b : Result ℕ Refusal) → listing a ≡ listing b → a ≡ b
listing_says (Ok n) (Ok m) e = let k : n ≡ m = ap (λ (s : Listing). s.count) e in cc
listing_says (Err x) (Err y) e = cc (number-one x y (ap (λ (s : Listing). s.number) e))
listing_says (Ok n) (Err y) e = absurd (number-not_0 y (sym (ap (λ (s : Listing). s.number) e)))
listing_says (Err x) (Ok m) e = absurd (number-not_0 x (ap (λ (s : Listing). s.number) e))

-- `lag_range`
pub lags_says : (a b : Result LagRange Refusal) → lags_said a ≡ lags_said b → a ≡ b
lags_says (Ok r) (Ok s) e = let k : r ≡ s = ap (λ (x : LagsSaid). record { min_lag = x.min_lag; max_lag = x.max_lag }) e in cc
lags_says (Err x) (Err y) e = cc (number-one x y (ap (λ (s : LagsSaid). s.number) e))
lags_says (Ok r) (Err y) e = absurd (number-not_0 y (sym (ap (λ (s : LagsSaid). s.number) e)))
lags_says (Err x) (Ok s) e = absurd (number-not_0 x (ap (λ (s : LagsSaid). s.number) e))

-- `estimate`
pub estimate_says : (a b : Result TempoEstimate Refusal) → estimate_said a ≡ estimate_said b → a ≡ b
estimate_says (Ok r) (Ok s) e =
    let k : r ≡ s = ap (λ (x : EstimateSaid). record { tempo = x.tempo; candidates = x.candidates; count = x.count }) e in
    cc
estimate_says (Err x) (Err y) e = cc (number-one x y (ap (λ (s : EstimateSaid). s.number) e))
estimate_says (Ok r) (Err y) e = absurd (number-not_0 y (sym (ap (λ (s : EstimateSaid). s.number) e)))
estimate_says (Err x) (Ok s) e = absurd (number-not_0 x (ap (λ (s : EstimateSaid). s.number) e))

-- `stability_of`
pub steadiness_says : (a b : Result Stability Refusal) → steadiness a ≡ steadiness b → a ≡ b
steadiness_says (Ok r) (Ok s) e = let k : r ≡ s = ap (λ (x : Steadiness). x.stability) e in cc
steadiness_says (Err x) (Err y) e = cc (number-one x y (ap (λ (s : Steadiness). s.number) e))
steadiness_says (Ok r) (Err y) e = absurd (number-not_0 y (sym (ap (λ (s : Steadiness). s.number) e)))
steadiness_says (Err x) (Ok s) e = absurd (number-not_0 x (ap (λ (s : Steadiness). s.number) e))

-- `room_of`
pub room_says : (a b : Result Room Refusal) → room_said a ≡ room_said b → a ≡ b
room_says (Ok r) (Ok s) e = let k : r ≡ s = ap (λ (x : RoomSaid). record { rows = x.rows; lags = x.lags; sorting = x.sorting }) e in cc
room_says (Err x) (Err y) e = cc (number-one x y (ap (λ (s : RoomSaid). s.number) e))
room_says (Ok r) (Err y) e = absurd (number-not_0 y (sym (ap (λ (s : RoomSaid). s.number) e)))
room_says (Err x) (Ok s) e = absurd (number-not_0 x (ap (λ (s : RoomSaid). s.number) e))

-- both analyses
pub analysis_says : (a b : Result Analysis Refusal) → analysis_said a ≡ analysis_said b → a ≡ b
analysis_says (Ok r) (Ok s) e =
    let k : r ≡ s = ap (λ (x : AnalysisSaid).
    record {
      onsets = x.onsets;
      tempo = x.tempo;
      candidates = x.candidates;
      count = x.count;
      stability = x.stability;
      beats = x.beats;
      downbeats = x.downbeats;
    }) e in
    cc
analysis_says (Err x) (Err y) e = cc (number-one x y (ap (λ (s : AnalysisSaid). s.number) e))
analysis_says (Ok r) (Err y) e = absurd (number-not_0 y (sym (ap (λ (s : AnalysisSaid). s.number) e)))
analysis_says (Err x) (Ok s) e = absurd (number-not_0 x (ap (λ (s : AnalysisSaid). s.number) e))

-- `boundaries`
pub sections_says : (a b : Result Sections Refusal) → sections_said a ≡ sections_said b → a ≡ b
sections_says (Ok r) (Ok s) e =
    let k : r ≡ s = ap (λ (x : SectionsSaid). record { sections = x.sections; count = x.count; confidence = x.confidence }) e in
    cc
sections_says (Err x) (Err y) e = cc (number-one x y (ap (λ (s : SectionsSaid). s.number) e))
sections_says (Ok r) (Err y) e = absurd (number-not_0 y (sym (ap (λ (s : SectionsSaid). s.number) e)))
sections_says (Err x) (Ok s) e = absurd (number-not_0 x (ap (λ (s : SectionsSaid). s.number) e))
