-- Document 01, "For each input, refused or not, a promise determines the result and each lent slot afterwards; prove that any two outcomes it
-- permits coincide." One statement for each promise, named by its call or by the record that several calls share. Slots that are sorted in, and
-- stability's lag curves, are the
-- exceptions: of those slices two outcomes have one length and agree past the slots that the formula names, or in all where a call refuses.
-- Assumes nothing.
use mathlib.Core.List.{List}
use mathlib.Core.Path.{◌≡◌, sym, ap, ◌∙◌}
use Prim.Native.Nat.{ℕ}
use Rattle.std.specs.Prelude.{Result}
use denote.Ref.{Bor}
use lib.Ieee.{Float, of_int, of_bits}
use lib.ListN.{length, drop}
use Rattle.numbers.specs.Lists.{curve}
use Rattle.numbers.specs.declared.Slab.{Slab}
use Rattle.numbers.specs.Refusals.{unless_refused}
use Rattle.numbers.specs.Rounded.{real}
use Rattle.numbers.specs.Outcomes.{Listing, Written, ListWritten}
use Rattle.numbers.proofs.Outcomes.{written_unique, lists_unique, open_unique}
use Rattle.frames.specs.Frames.{RowOf}
use Rattle.frames.proofs.Laws.{one_part}
use Rattle.median.specs.Answers.{Answered}
use Rattle.median.proofs.Outcomes.{answered_unique}
use Rattle.numbers.specs.declared.Refusal.{Refusal}
use Rattle.flux.specs.Flux.{flux_at, FluxPromise}
use Rattle.threshold.specs.Threshold.{sorting_room, threshold_refusal, ThresholdPromise}
use Rattle.onsets.specs.Peaks.{SuppressionPromise}
use Rattle.onsets.specs.Onsets.{OnsetsPromise, FrameTimesPromise}
use Rattle.cues.specs.Calls.{WriteCuesPromise, ReadCuesPromise}
use Rattle.labels.specs.Calls.{LabelsRoomPromise, WriteLabelsPromise, ReadLabelsPromise}
use Rattle.label_cues.specs.Calls.{LabelsToCuesPromise, CuesToLabelsPromise}
use Rattle.threshold.proofs.Thresholds.{thresholds_unique}
use Rattle.lags.specs.Lags.{LagsSaid, min_lag, max_lag, lag_range}
use Rattle.options.specs.Options.{default_options, options_of, with_min_bpm, with_max_bpm, with_meter}
use Rattle.options.specs.declared.TempoOpts.{TempoOpts}
use Rattle.tempo.specs.Answers.{EstimateSaid, EstimatePromise}
use Rattle.tempo.proofs.Promises as tempo
use Rattle.stability.specs.Answers.{Steadiness, stability_refusal, left_open, StabilityPromise}
use Rattle.stability.proofs.Promises as stability
use Rattle.beats.specs.Grids.{GridPromise}
use Rattle.bars.specs.BarBeats.{BarBeatPromise}
use Rattle.bars.specs.Downbeats.{DownbeatsPromise}
use Rattle.bars.specs.declared.BarBeat.{BarBeat}
use Rattle.bars.proofs.BarBeats.{says_one}
use Rattle.midi.specs.Tracks.{TempoTrackPromise, TempoGapsPromise}
use Rattle.feature_places.specs.declared.FeatureGrid.{FeatureGrid}
use Rattle.features.specs.Features.{FeatureRowsPromise}
use Rattle.similarities.specs.Similarity.{SimilarityPromise}
use Rattle.novelties.specs.Novelty.{NoveltyPromise}
use Rattle.sections.specs.Outcomes.{SectionsSaid, worked_in, Found, BoundaryTimesPromise}
use Rattle.sections.proofs.Outcomes.{found_unique}
use Rattle.patches.specs.Patches.{Patch}
use Rattle.patch_magnitudes.specs.Tracks as tracks
use Rattle.patch_magnitudes.specs.Magnitudes as magnitudes
use Rattle.patch_magnitudes.specs.declared.Patched.{Patched}
use Rattle.patch_magnitudes.proofs.Outcomes as magnitude_outcomes
use Rattle.patch_features.specs.Features as features
use Rattle.patch_features.specs.declared.PatchedFeatures.{PatchedFeatures}
use Rattle.patch_features.proofs.Outcomes as feature_outcomes
use Rattle.rooms.specs.Rooms.{RoomSaid, Results, Spare, room_of, magnitudes_number}
use Rattle.track.specs.Analyses.{AnalysisSaid, open_lags, open_work, Analysed}
use Rattle.analysis.specs.Analyses.{MagnitudesPromise}
use Rattle.analysis.proofs.Promises as analyses

-- `lag_range`, `room_of`
pub lag_range_lem : (rate : ℕ) (o : TempoOpts) {a b : LagsSaid} → a ≡ lag_range rate o → b ≡ lag_range rate o → a ≡ b
lag_range_lem rate o p q = p ∙ sym q

pub room_of_lem : (rows rate : ℕ) (o : TempoOpts) {a b : RoomSaid} → a ≡ room_of rows rate o → b ≡ room_of rows rate o → a ≡ b
room_of_lem rows rate o p q = p ∙ sym q

-- `bar_beat_at`: two answers that say the same are one
pub bar_beat_at : (time : Float) (bars beats : List Float) {a b : BarBeat}
    → BarBeatPromise time bars beats a → BarBeatPromise time bars beats b → a ≡ b
bar_beat_at time bars beats p q = says_one _ _ (p ∙ sym q)

-- options that are equal have each bound and the meter equal
each_option : {a o : TempoOpts} → a ≡ o → (a.min_bpm ≡ o.min_bpm) × (a.max_bpm ≡ o.max_bpm) × (a.meter ≡ o.meter)
each_option p = (ap (λ (x : TempoOpts). x.min_bpm) p, ap (λ (x : TempoOpts). x.max_bpm) p, ap (λ (x : TempoOpts). x.meter) p)

-- `TempoOpts::new`: the defaults, 30 and 300, and bars of 4
pub options_new : {a b : TempoOpts} → a ≡ default_options → b ≡ default_options
    → (a ≡ b) × ((a.min_bpm ≡ real 30) × (a.max_bpm ≡ real 300) × (a.meter ≡ 4))
unfolding of_int of_bits
options_new p q = (p ∙ sym q, each_option p)

-- `TempoOpts::between`: the bounds that are given, and bars of 4
pub options_between : (min_bpm max_bpm : Float) {a b : TempoOpts} → a ≡ options_of min_bpm max_bpm → b ≡ options_of min_bpm max_bpm
    → (a ≡ b) × ((a.min_bpm ≡ min_bpm) × (a.max_bpm ≡ max_bpm) × (a.meter ≡ 4))
options_between min_bpm max_bpm p q = (p ∙ sym q, each_option p)

-- `with_min_bpm`, `with_max_bpm`, `with_meter`: a setter changes its own and no other
pub with_min_bpm_lem : (bpm : Float) (o : TempoOpts) {a b : TempoOpts} → a ≡ with_min_bpm bpm o → b ≡ with_min_bpm bpm o
    → (a ≡ b) × ((a.min_bpm ≡ bpm) × (a.max_bpm ≡ o.max_bpm) × (a.meter ≡ o.meter))
with_min_bpm_lem bpm o p q = (p ∙ sym q, each_option p)

pub with_max_bpm_lem : (bpm : Float) (o : TempoOpts) {a b : TempoOpts} → a ≡ with_max_bpm bpm o → b ≡ with_max_bpm bpm o
    → (a ≡ b) × ((a.min_bpm ≡ o.min_bpm) × (a.max_bpm ≡ bpm) × (a.meter ≡ o.meter))
with_max_bpm_lem bpm o p q = (p ∙ sym q, each_option p)

pub with_meter_lem : (meter : ℕ) (o : TempoOpts) {a b : TempoOpts} → a ≡ with_meter meter o → b ≡ with_meter meter o
    → (a ≡ b) × ((a.min_bpm ≡ o.min_bpm) × (a.max_bpm ≡ o.max_bpm) × (a.meter ≡ meter))
with_meter_lem meter o p q = (p ∙ sym q, each_option p)

-- a number, and one lent list
pub written : {A : Type 0} (number : ℕ) (done was : List A) {a b : ℕ} {x y : List A} → Written number done was a x → Written number done was b y
    → (a ≡ b) × (x ≡ y)
written number done was = written_unique number done was

-- `spectral_flux`
pub spectral_flux : (magnitudes : List Float) (slab : Slab) (was : List Float) {a b : ℕ} {x y : List Float}
    → FluxPromise magnitudes slab was a x → FluxPromise magnitudes slab was b y → (a ≡ b) × (x ≡ y)
spectral_flux magnitudes slab was = written _ _ was

-- `frame_times`, `boundary_times`
pub frame_times : (frames : List ℕ) (rate : ℕ) (was : List Float) {a b : ℕ} {x y : List Float}
    → FrameTimesPromise frames rate was a x → FrameTimesPromise frames rate was b y → (a ≡ b) × (x ≡ y)
frame_times frames rate was = written _ _ was

pub boundary_times : (rows : List ℕ) (samples rate : ℕ) (was : List Float) {a b : ℕ} {x y : List Float}
    → BoundaryTimesPromise rows samples rate was a x → BoundaryTimesPromise rows samples rate was b y → (a ≡ b) × (x ≡ y)
boundary_times rows samples rate was = written _ _ was

-- a number, a count, and one lent list
pub listing : (number : ℕ) (entries was : List ℕ) {a b : Listing} {x y : List ℕ} → ListWritten number entries was a x → ListWritten number entries was b y
    → (a.number ≡ b.number) × (a.count ≡ b.count) × (x ≡ y)
listing number entries was = lists_unique number entries was

-- `pick_onsets`, `suppress_close_peaks`
pub pick-onsets : (flux threshold : List Float) (rate : ℕ) (was : List ℕ) {a b : Listing} {x y : List ℕ}
    → OnsetsPromise flux threshold rate was a x → OnsetsPromise flux threshold rate was b y
    → (a.number ≡ b.number) × (a.count ≡ b.count) × (x ≡ y)
pick-onsets flux threshold rate was = listing _ _ was

pub suppress_close_peaks : (peaks : List ℕ) (curve : List Float) (gap : ℕ) (was : List ℕ) {a b : Listing} {x y : List ℕ}
    → SuppressionPromise peaks curve gap was a x → SuppressionPromise peaks curve gap was b y
    → (a.number ≡ b.number) × (a.count ≡ b.count) × (x ≡ y)
suppress_close_peaks peaks curve gap was = listing _ _ was

-- `write_cues`, `read_cues`
pub write_cues : (frames was : List ℕ) {a b : Listing} {x y : List ℕ} → WriteCuesPromise frames was a x → WriteCuesPromise frames was b y
    → (a.number ≡ b.number) × (a.count ≡ b.count) × (x ≡ y)
write_cues frames was = listing _ _ was

pub read_cues : (chunk was : List ℕ) {a b : Listing} {x y : List ℕ} → ReadCuesPromise chunk was a x → ReadCuesPromise chunk was b y
    → (a.number ≡ b.number) × (a.count ≡ b.count) × (x ≡ y)
read_cues chunk was = listing _ _ was

-- `labels_room`, `write_labels`, `read_labels`
pub labels_room : (frames : List ℕ) (rate : ℕ) {a b : Listing} → LabelsRoomPromise frames rate a → LabelsRoomPromise frames rate b
    → (a.number ≡ b.number) × (a.count ≡ b.count)
labels_room frames rate p q = (p.number_is ∙ sym q.number_is, p.count_is ∙ sym q.count_is)

pub write_labels : (frames : List ℕ) (rate : ℕ) (was : List ℕ) {a b : Listing} {x y : List ℕ}
    → WriteLabelsPromise frames rate was a x → WriteLabelsPromise frames rate was b y → (a.number ≡ b.number) × (a.count ≡ b.count) × (x ≡ y)
write_labels frames rate was = listing _ _ was

pub read_labels : (text : List ℕ) (rate : ℕ) (was : List ℕ) {a b : Listing} {x y : List ℕ}
    → ReadLabelsPromise text rate was a x → ReadLabelsPromise text rate was b y → (a.number ≡ b.number) × (a.count ≡ b.count) × (x ≡ y)
read_labels text rate was = listing _ _ was

-- `labels_to_cues`, `cues_to_labels`
pub labels_to_cues : (text : List ℕ) (rate : ℕ) (was : List ℕ) {a b : Listing} {x y : List ℕ}
    → LabelsToCuesPromise text rate was a x → LabelsToCuesPromise text rate was b y → (a.number ≡ b.number) × (a.count ≡ b.count) × (x ≡ y)
labels_to_cues text rate was = listing _ _ was

pub cues_to_labels : (chunk : List ℕ) (rate : ℕ) (was : List ℕ) {a b : Listing} {x y : List ℕ}
    → CuesToLabelsPromise chunk rate was a x → CuesToLabelsPromise chunk rate was b y → (a.number ≡ b.number) × (a.count ≡ b.count) × (x ≡ y)
cues_to_labels chunk rate was = listing _ _ was

-- `write_tempo_track`, `read_tempo_track`
pub write_tempo_track : (beats : List ℕ) (rate : ℕ) (was : List ℕ) {a b : Listing} {x y : List ℕ}
    → TempoTrackPromise beats rate was a x → TempoTrackPromise beats rate was b y
    → (a.number ≡ b.number) × (a.count ≡ b.count) × (x ≡ y)
write_tempo_track beats rate was = listing _ _ was

pub read_tempo_track : (file was : List ℕ) {a b : Listing} {x y : List ℕ} → TempoGapsPromise file was a x → TempoGapsPromise file was b y
    → (a.number ≡ b.number) × (a.count ≡ b.count) × (x ≡ y)
read_tempo_track file was = listing _ _ was

-- `frames_of`: the reader holds the slab that it was given, and the bins
pub frames_of : {slab r s : Bor (List Float)} {bins m n : ℕ} → (r ≡ slab) × (m ≡ bins) → (s ≡ slab) × (n ≡ bins) → (r ≡ s) × (m ≡ n)
frames_of p q = (p.0 ∙ sym q.0, p.1 ∙ sym q.1)

-- `row_of`, `Frames::row`, `row_at`: one place in memory, and what it holds
pub row : {slab p q : Bor (List Float)} {bins t : ℕ} → RowOf slab bins t p → RowOf slab bins t q → (p.ref_ptr ≡ q.ref_ptr) × (p.now ≡ q.now)
row = one_part

-- `median_of`, `mad_of`: `MedianPromise` and `MadPromise` are `Answered` of their own numbers and values
pub median : {number : ℕ} {value : Float} {xs work : List Float} {a b : Result Float Refusal} {v w : List Float}
    → Answered number value xs work a v → Answered number value xs work b w
    → let sorted = unless_refused number (length xs) 0 in (a ≡ b) × (length v ≡ length w) × (drop sorted v ≡ drop sorted w)
median = answered_unique

-- `adaptive_threshold`
pub adaptive_threshold : {flux threshold work : List Float} {a b : ℕ} {x y v w : List Float} → ThresholdPromise flux threshold work a x v
    → ThresholdPromise flux threshold work b y w
    → let sorted = unless_refused (threshold_refusal flux (length threshold) (length work)) (sorting_room flux) 0 in
    (a ≡ b) × (x ≡ y) × (length v ≡ length w) × (drop sorted v ≡ drop sorted w)
adaptive_threshold = thresholds_unique

-- `estimate`: the work slice too, since nothing is sorted in it
pub estimate : {env : List Float} {onsets rate : ℕ} {o : TempoOpts} {clarity weight work : List Float} {a b : EstimateSaid} {c d w v k l : List Float}
    → EstimatePromise env onsets rate o clarity weight work a c w k → EstimatePromise env onsets rate o clarity weight work b d v l
    → (a ≡ b) × (c ≡ d) × (w ≡ v) × (k ≡ l)
estimate = tempo.coincide

-- `stability_of`: the answer, and of each lent slice its length and what is not left open
pub stability_of : {env : List Float} {rate : ℕ} {o : TempoOpts} {whole : ℕ} {clarity weight work : List Float} {a b : Steadiness} {c d w v k l : List Float}
    → StabilityPromise env rate o whole clarity weight work a c w k → StabilityPromise env rate o whole clarity weight work b d v l
    → let number = stability_refusal env rate o whole (length clarity) (length weight) (length work) in
    let room = left_open (length env) (min_lag rate o) (max_lag rate o) whole in
    (a ≡ b) × stability.Alike number room c d × stability.Alike number room w v × stability.Alike number room k l
stability_of = stability.coincide

-- `beat_grid`
pub beat_grid : {envelope : List Float} {period : ℕ} {score : List Float} {back beats : List ℕ} {a b : Listing} {s t : List Float} {k l x y : List ℕ}
    → GridPromise envelope period score back beats a s k x → GridPromise envelope period score back beats b t l y
    → (a.number ≡ b.number) × (a.count ≡ b.count) × (s ≡ t) × (k ≡ l) × (x ≡ y)
beat_grid p q = (
  p.number_is ∙ sym q.number_is,
  p.count_is ∙ sym q.count_is,
  p.score_is ∙ sym q.score_is,
  p.back_is ∙ sym q.back_is,
  p.beats_are ∙ sym q.beats_are,
)

-- `downbeats`
pub downbeats : (envelope : List Float) (beats : List ℕ) (o : TempoOpts) (frames : List ℕ) {a b : Listing} {x y : List ℕ}
    → DownbeatsPromise envelope beats o frames a x → DownbeatsPromise envelope beats o frames b y
    → (a.number ≡ b.number) × (a.count ≡ b.count) × (x ≡ y)
downbeats envelope beats o frames = listing _ _ frames

-- `feature_rows`
pub feature_rows : (magnitudes : List Float) (rows : ℕ) (samples : List Float) (grid : FeatureGrid) (was : List Float) {a b : ℕ} {x y : List Float}
    → FeatureRowsPromise magnitudes rows samples grid was a x → FeatureRowsPromise magnitudes rows samples grid was b y → (a ≡ b) × (x ≡ y)
feature_rows magnitudes rows samples grid was = written _ _ was

-- `similarity`, `novelty`
pub similarity : {features : List Float} {rows : ℕ} {was : List Float} {m n : ℕ} {x y : List Float}
    → SimilarityPromise features rows was m x → SimilarityPromise features rows was n y → (m ≡ n) × (x ≡ y)
similarity p q = (p.answer ∙ sym q.answer, p.slots ∙ sym q.slots)

pub novelty : {similarities : List Float} {rows : ℕ} {was : List Float} {m n : ℕ} {x y : List Float}
    → NoveltyPromise similarities rows was m x → NoveltyPromise similarities rows was n y → (m ≡ n) × (x ≡ y)
novelty p q = (p.answer ∙ sym q.answer, p.slots ∙ sym q.slots)

-- `boundaries`: `BoundariesPromise` is `Found` of its number and its boundaries
pub boundaries : (number : ℕ) (curve : List Float) (bounds rows : List ℕ) (work : List Float) {a b : SectionsSaid} {x y : List ℕ} {u v : List Float}
    → Found number curve bounds rows work a x u → Found number curve bounds rows work b y v
    → ((a.number ≡ b.number) × (a.sections ≡ b.sections) × (a.count ≡ b.count) × (a.confidence ≡ b.confidence) × (x ≡ y)
    × (drop (worked_in number (length curve)) u ≡ drop (worked_in number (length curve)) v)) × (length u ≡ length v)
boundaries number curve bounds rows work p q = (found_unique number curve bounds rows work p q, (open_unique p.works q.works).0)

-- `patch_magnitudes`: both ranges, the rows and both curves; and the work slice past the slots that are sorted in
pub patch_magnitudes : (slab : Slab) (was : tracks.MagnitudeTrack) (patch : Patch) (work : List Float) {a b : Result Patched Refusal} {x y : tracks.MagnitudeTrack}
    {v w : List Float}
    → magnitudes.PatchMagnitudesPromise slab was patch work a x v → magnitudes.PatchMagnitudesPromise slab was patch work b y w
    → let sorted = magnitudes.patch_sorted_in (tracks.patch_number slab was patch (length work)) slab.rows patch in
    (a ≡ b) × (x ≡ y) × (length v ≡ length w) × (drop sorted v ≡ drop sorted w)
patch_magnitudes slab was patch work p q = magnitude_outcomes.unique slab was patch work p q

-- `patch_features`: both ranges, the rows and both curves
pub patch_features : (rows : ℕ) (was : features.FeatureTrack) (patch : Patch) {a b : Result PatchedFeatures Refusal} {x y : features.FeatureTrack}
    → features.PatchFeaturesPromise rows was patch a x → features.PatchFeaturesPromise rows was patch b y → (a ≡ b) × (x ≡ y)
patch_features rows was patch p q = feature_outcomes.unique rows was patch p q

-- `analyse_envelope`: the answer and each result; what is worked in, past the slots left open
pub analysis : {number : ℕ} {env : List Float} {rate : ℕ} {o : TempoOpts} {was : Results} {lent : Spare} {a b : AnalysisSaid} {x y : Results} {s t : Spare}
    → Analysed number env rate o was lent a x s → Analysed number env rate o was lent b y t
    → (a ≡ b) × (x ≡ y)
    × ((length s.window_clarity ≡ length t.window_clarity)
    × (drop (open_lags number env rate o) s.window_clarity ≡ drop (open_lags number env rate o) t.window_clarity))
    × ((length s.window_weight ≡ length t.window_weight)
    × (drop (open_lags number env rate o) s.window_weight ≡ drop (open_lags number env rate o) t.window_weight))
    × ((length s.work ≡ length t.work) × (drop (open_work number env rate o) s.work ≡ drop (open_work number env rate o) t.work))
analysis p q =
    let one = analyses.coincide p q in (
      one.0,
      one.1,
      analyses.open_coincide p.window_clarities q.window_clarities,
      analyses.open_coincide p.window_weights q.window_weights,
      analyses.open_coincide p.works q.works,
    )

-- `analyse_magnitudes`: the flux too
pub analysis_of_magnitudes : {m : List Float} {slab : Slab} {rate : ℕ} {o : TempoOpts} {flux : List Float} {was : Results} {lent : Spare}
    {a b : AnalysisSaid} {f g : List Float} {x y : Results} {s t : Spare}
    → MagnitudesPromise m slab rate o flux was lent a f x s → MagnitudesPromise m slab rate o flux was lent b g y t
    → let number = magnitudes_number m slab rate o flux was lent in
    let env = curve (flux_at m slab) slab.rows in
    (a ≡ b) × (f ≡ g) × (x ≡ y)
    × ((length s.window_clarity ≡ length t.window_clarity)
    × (drop (open_lags number env rate o) s.window_clarity ≡ drop (open_lags number env rate o) t.window_clarity))
    × ((length s.window_weight ≡ length t.window_weight)
    × (drop (open_lags number env rate o) s.window_weight ≡ drop (open_lags number env rate o) t.window_weight))
    × ((length s.work ≡ length t.work) × (drop (open_work number env rate o) s.work ≡ drop (open_work number env rate o) t.work))
analysis_of_magnitudes p q = let one = analysis p.analysed q.analysed in (one.0, p.fluxes ∙ sym q.fluxes, one.1, one.2, one.3, one.4)
