-- Any two outcomes that the promise of an exported function permits coincide, but for the slots that the proved call leaves open (sorting room and
-- stability's lag room). Where the promise is the proved call's own, as of `ph_spectral_flux` or
-- `ph_similarity`, so is the law. Assumes nothing.
use Prim.Native.Nat.{ℕ}
use mathlib.Core.Path.{◌≡◌, sym, ◌∙◌}
use mathlib.Core.List.{List}
use lib.ListN.{length, drop}
use lib.Ieee.{Float}
use Rattle.numbers.specs.Refusals.{unless_refused}
use Rattle.numbers.proofs.Outcomes.{open_unique}
use Rattle.numbers.specs.declared.Slab.{Slab}
use Rattle.options.specs.declared.TempoOpts.{TempoOpts}
use Rattle.lags.specs.Lags.{min_lag, max_lag}
use Rattle.tempo.proofs.Promises as tempo
use Rattle.stability.specs.Answers.{stability_refusal, left_open}
use Rattle.stability.proofs.Promises as stability
use Rattle.sections.specs.Outcomes.{worked_in}
use Rattle.patches.specs.Patches.{Patch}
use Rattle.patch_magnitudes.specs.Tracks as tracks
use Rattle.patch_magnitudes.specs.Magnitudes as magnitudes
use Rattle.patch_features.specs.Features as features
use Rattle.capi_answers.specs.Handed.{Handed}
use Rattle.capi_answers.specs.Tempos.{TempoLent, ShareLent}
use Rattle.capi_answers.specs.Grids.{Placed}
use Rattle.capi_answers.specs.Forms.{SectionsLent}
use Rattle.capi.specs.Lists.{ListHanded}
use Rattle.capi.specs.Medians.{Valued}
use Rattle.capi.specs.Tempos.{PhEstimatePromise, PhStabilityPromise}
use Rattle.capi.specs.Grids.{PhGridPromise}
use Rattle.capi.specs.Forms.{BoundariesTold}
use Rattle.capi.specs.Repairs.{PhPatchMagnitudesPromise, PhPatchFeaturesPromise}

-- the number and what is lent; `ph_lag_range`, `ph_room_of` and `ph_labels_room` by itself
pub handed_unique : {A : Type 0} {number : ℕ} {parts lent₀ : A} {a b : ℕ} {x y : A}
    → Handed number parts lent₀ a x → Handed number parts lent₀ b y → (a ≡ b) × (x ≡ y)
handed_unique p q = (p.number_is ∙ sym q.number_is, p.parts_are ∙ sym q.parts_are)

-- `ph_pick_onsets`, `ph_suppress_close_peaks`, `ph_downbeats`, and what writes or reads a file
pub listed_unique : {number : ℕ} {entries was : List ℕ} {count₀ a b : ℕ} {x y : List ℕ} {m n : ℕ}
    → ListHanded number entries was count₀ a x m → ListHanded number entries was count₀ b y n → ((a ≡ b) × (m ≡ n)) × (x ≡ y)
listed_unique p q = (handed_unique p.handed q.handed, p.frames_are ∙ sym q.frames_are)

-- `ph_median_of`, `ph_mad_of`
pub valued_unique : {number : ℕ} {v : Float} {xs was : List Float} {value₀ : Float} {a b : ℕ} {x y : List Float} {m n : Float}
    → Valued number v xs was value₀ a x m → Valued number v xs was value₀ b y n
    → let sorted = unless_refused number (length xs) 0 in ((a ≡ b) × (m ≡ n)) × ((length x ≡ length y) × (drop sorted x ≡ drop sorted y))
valued_unique p q = (handed_unique p.handed q.handed, open_unique p.works q.works)

pub estimate_unique : {env : List Float} {onsets rate : ℕ} {o : TempoOpts} {clarity weight work : List Float} {lent₀ : TempoLent}
    {a b : ℕ} {c d w v k l : List Float} {x y : TempoLent}
    → PhEstimatePromise env onsets rate o clarity weight work lent₀ a c w k x → PhEstimatePromise env onsets rate o clarity weight work lent₀ b d v l y
    → ((a ≡ b) × (x ≡ y)) × ((c ≡ d) × (w ≡ v) × (k ≡ l))
estimate_unique p q =
    let same = tempo.coincide p.slices q.slices in
    (handed_unique p.handed q.handed, (same.1, same.2, same.3))

pub stability_unique : {env : List Float} {rate : ℕ} {o : TempoOpts} {whole : ℕ} {clarity weight work : List Float} {lent₀ : ShareLent}
    {a b : ℕ} {c d w v k l : List Float} {x y : ShareLent}
    → PhStabilityPromise env rate o whole clarity weight work lent₀ a c w k x → PhStabilityPromise env rate o whole clarity weight work lent₀ b d v l y
    → let number = stability_refusal env rate o whole (length clarity) (length weight) (length work) in
    let room = left_open (length env) (min_lag rate o) (max_lag rate o) whole in
    ((a ≡ b) × (x ≡ y)) × (stability.Alike number room c d × stability.Alike number room w v × stability.Alike number room k l)
stability_unique p q =
    let same = stability.coincide p.slices q.slices in
    (handed_unique p.handed q.handed, (same.1, same.2, same.3))

pub placed_unique : {said : ℕ × List ℕ} {a b f g m n u v : ℕ} → Placed said a f m u → Placed said b g n v → (a ≡ b) × (f ≡ g) × (m ≡ n) × (u ≡ v)
placed_unique p q = (
  p.number_is ∙ sym q.number_is,
  p.found_is ∙ sym q.found_is,
  p.bar_is ∙ sym q.bar_is,
  p.beat_is ∙ sym q.beat_is,
)

pub beats_unique : {envelope : List Float} {period : ℕ} {score₀ : List Float} {back₀ beats₀ : List ℕ} {count₀ a b : ℕ}
    {s t : List Float} {k l x y : List ℕ} {m n : ℕ}
    → PhGridPromise envelope period score₀ back₀ beats₀ count₀ a s k x m → PhGridPromise envelope period score₀ back₀ beats₀ count₀ b t l y n
    → ((a ≡ b) × (m ≡ n)) × ((s ≡ t) × (k ≡ l) × (x ≡ y))
beats_unique p q =
    let one = handed_unique p.handed q.handed in (
      one,
      (
        p.slices.score_is ∙ sym q.slices.score_is,
        p.slices.back_is ∙ sym q.slices.back_is,
        p.slices.beats_are ∙ sym q.slices.beats_are,
      ),
    )

pub boundaries_unique : {number : ℕ} {novelty : List Float} {bounds rows : List ℕ} {work : List Float} {lent₀ : SectionsLent}
    {a b : ℕ} {x y : List ℕ} {u v : List Float} {s t : SectionsLent}
    → BoundariesTold number novelty bounds rows work lent₀ a x u s → BoundariesTold number novelty bounds rows work lent₀ b y v t
    → ((a ≡ b) × (s ≡ t))
    × ((x ≡ y) × (length u ≡ length v) × (drop (worked_in number (length novelty)) u ≡ drop (worked_in number (length novelty)) v))
boundaries_unique p q = (
  handed_unique p.handed q.handed,
  (p.rows_are ∙ sym q.rows_are, (open_unique p.works q.works).0, (open_unique p.works q.works).1),
)

pub rows_unique : {slab : Slab} {was : tracks.MagnitudeTrack} {patch : Patch} {work : List Float} {lent₀ : List ℕ}
    {a b : ℕ} {x y : tracks.MagnitudeTrack} {u v : List Float} {s t : List ℕ}
    → PhPatchMagnitudesPromise slab was patch work lent₀ a x u s → PhPatchMagnitudesPromise slab was patch work lent₀ b y v t
    → let sorted = magnitudes.patch_sorted_in (tracks.patch_number slab was patch (length work)) slab.rows patch in
    ((a ≡ b) × (s ≡ t)) × ((x ≡ y) × (length u ≡ length v) × (drop sorted u ≡ drop sorted v))
rows_unique p q = (
  handed_unique p.handed q.handed,
  (
    p.slices.track_is ∙ sym q.slices.track_is,
    p.slices.works.same_length ∙ sym q.slices.works.same_length,
    p.slices.works.kept
        ∙ sym q.slices.works.kept,
  ),
)

pub features_unique : {rows : ℕ} {was : features.FeatureTrack} {patch : Patch} {lent₀ : List ℕ} {a b : ℕ} {x y : features.FeatureTrack} {s t : List ℕ}
    → PhPatchFeaturesPromise rows was patch lent₀ a x s → PhPatchFeaturesPromise rows was patch lent₀ b y t → ((a ≡ b) × (s ≡ t)) × (x ≡ y)
features_unique p q = (handed_unique p.handed q.handed, p.slices.track_is ∙ sym q.slices.track_is)
