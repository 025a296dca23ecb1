-- What each exported function promises, from what the proved call behind it promises of its answer and from how that answer is handed over.
-- Assumes nothing.
use Prim.Native.Nat.{ℕ, zero, suc}
use mathlib.Core.Path.{◌≡◌, refl, ap, ◌∙◌}
use mathlib.Core.List.{List, [], ◌∷◌}
use lib.ListN.{length, get_or}
use lib.Ieee.{Float}
use Rattle.numbers.specs.Refusals.{unless_refused}
use Rattle.numbers.specs.declared.Slab.{Slab}
use Rattle.numbers.specs.Rounded.{nought}
use Rattle.median.specs.Answers.{median_says, Answered}
use Rattle.std.specs.Prelude.{Result}
use Rattle.numbers.specs.declared.Refusal.{Refusal}
use Rattle.numbers.specs.Outcomes.{Listing, ListWritten}
use Rattle.options.specs.declared.TempoOpts.{TempoOpts}
use Rattle.tempo.specs.Answers.{EstimateSaid, EstimatePromise}
use Rattle.stability.specs.Answers.{Steadiness, StabilityPromise}
use Rattle.beats.specs.Grids.{grid_of, GridPromise}
use Rattle.sections.specs.Boundaries.{sections_of}
use Rattle.sections.specs.Confidence.{confidence_of}
use Rattle.sections.specs.Outcomes.{SectionsSaid, Found}
use Rattle.patches.specs.Patches.{Patch, ranges}
use Rattle.patch_magnitudes.specs.declared.Patched as rows-done
use Rattle.patch_magnitudes.specs.Tracks as tracks
use Rattle.patch_magnitudes.specs.Magnitudes as magnitudes
use Rattle.patch_features.specs.declared.PatchedFeatures as features-done
use Rattle.patch_features.specs.Features as features
use Rattle.capi_answers.specs.Handed.{Handed}
use Rattle.capi_answers.specs.Medians.{ValueHanded}
use Rattle.capi_answers.specs.Tempos.{TempoLent, tempo_parts, ShareLent, share_parts}
use Rattle.capi_answers.specs.Forms.{SectionsLent, sections_lent, parts_in}
use Rattle.capi_answers.specs.Repairs.{SlotsHanded}
use Rattle.capi_answers.proofs.Hands.{handed-on, ranges-handed}
use Rattle.capi.specs.Lists.{ListHanded}
use Rattle.capi.specs.Medians.{Valued}
use Rattle.capi.specs.Tempos.{PhEstimatePromise, PhStabilityPromise}
use Rattle.capi.specs.Grids.{PhGridPromise}
use Rattle.capi.specs.Forms.{section_parts, BoundariesTold}
use Rattle.capi.specs.Repairs as repairs

-- ---- lists

pub listed-told : {number : ℕ} {entries was : List ℕ} {listing : Listing} {after : List ℕ} {count₀ answer count : ℕ}
    → ListWritten number entries was listing after → Handed listing.number listing.count count₀ answer count
    → ListHanded number entries was count₀ answer after count
listed-told {number} {entries} p h =
    record { handed = handed-on number (length entries) 0 p.number_is p.count_is h; frames_are = p.frames_are }

pub beats-told : {envelope : List Float} {period : ℕ} {score₀ : List Float} {back₀ beats₀ : List ℕ} {r : Listing} {score : List Float} {back beats : List ℕ}
    {count₀ answer count : ℕ}
    → GridPromise envelope period score₀ back₀ beats₀ r score back beats → Handed r.number r.count count₀ answer count
    → PhGridPromise envelope period score₀ back₀ beats₀ count₀ answer score back beats count
beats-told {envelope} {period} p h =
    record {
      handed = handed-on _ (length (grid_of envelope period)) 0 p.number_is p.count_is h;
      slices = record { number_is = h.number_is ∙ p.number_is; count_is = refl; score_is = p.score_is; back_is = p.back_is; beats_are = p.beats_are };
    }

-- ---- medians

value-kept : (n : ℕ) (v value₀ : Float) → get_or (unless_refused n (v ∷ []) []) 0 value₀ ≡ unless_refused n v value₀
value-kept zero v value₀ = refl
value-kept (suc k) v value₀ = refl

pub value-told : {number : ℕ} {v : Float} {xs was : List Float} {own : Result Float Refusal} {work : List Float} {value₀ : Float} {answer : ℕ} {value : Float}
    → Answered number v xs was own work → ValueHanded (median_says own) value₀ answer value → Valued number v xs was value₀ answer work value
value-told {number} {v} {value₀ = value₀} p h =
    record {
      handed =
          record {
            number_is = h.number_is ∙ ap (λ (said : ℕ × List Float). said.0) p.answer;
            parts_are = h.value_is ∙ ap (λ (said : ℕ × List Float). get_or said.1 0 value₀) p.answer ∙ value-kept number v value₀;
          };
      works = p.works;
    }

-- ---- tempo and stability

pub estimate_told : {env : List Float} {onsets rate : ℕ} {o : TempoOpts} {clarity weight work : List Float} {own : EstimateSaid}
    {clarity' weight' work' : List Float}
    {lent₀ : TempoLent} {answer : ℕ} {lent : TempoLent}
    → EstimatePromise env onsets rate o clarity weight work own clarity' weight' work' → Handed own.number (tempo_parts own) lent₀ answer lent
    → PhEstimatePromise env onsets rate o clarity weight work lent₀ answer clarity' weight' work' lent
estimate_told p h = rw (← p.answered) (record { handed = h; slices = p })

pub stability_told : {env : List Float} {rate : ℕ} {o : TempoOpts} {whole : ℕ} {clarity weight work : List Float} {own : Steadiness}
    {clarity' weight' work' : List Float}
    {lent₀ : ShareLent} {answer : ℕ} {lent : ShareLent}
    → StabilityPromise env rate o whole clarity weight work own clarity' weight' work' → Handed own.number (share_parts own.stability) lent₀ answer lent
    → PhStabilityPromise env rate o whole clarity weight work lent₀ answer clarity' weight' work' lent
stability_told p h = rw (← p.answered) (record { handed = h; slices = p })

-- ---- sections

parts-kept : (n : ℕ) (novelty : List Float) (bounds : List ℕ) (own : SectionsSaid) → own.sections ≡ unless_refused n (sections_of (length novelty) (length bounds)) 0
    → own.count ≡ unless_refused n (length bounds) 0 → own.confidence ≡ unless_refused n (confidence_of novelty bounds) nought
    → parts_in own ≡ unless_refused n (section_parts novelty bounds) (sections_lent 0 0 nought)
parts-kept zero novelty bounds own s c f = rw (s, c, f)
parts-kept (suc k) novelty bounds own s c f = rw (s, c, f)

pub boundaries_told : {number : ℕ} {novelty : List Float} {bounds rows : List ℕ} {work : List Float} {own : SectionsSaid} {rows' : List ℕ} {work' : List Float}
    {lent₀ : SectionsLent} {answer : ℕ} {lent : SectionsLent}
    → Found number novelty bounds rows work own rows' work' → Handed own.number (parts_in own) lent₀ answer lent
    → BoundariesTold number novelty bounds rows work lent₀ answer rows' work' lent
boundaries_told {number} {novelty} {bounds} {own = own} p h =
    record {
      handed =
          handed-on number (section_parts novelty bounds) (sections_lent 0 0 nought) p.number_is
          (parts-kept number novelty bounds own p.sections_are p.count_is p.confidence_is) h;
      rows_are = p.rows_are;
      works = p.works;
    }

-- ---- patches

-- the four numbers that are lent, and what they then hold
module _ {p q r s answer : ℕ} {lent : List ℕ} where
  pub rows_told : {slab : Slab} {was : tracks.MagnitudeTrack} {patch : Patch} {work : List Float} {own : Result rows-done.Patched Refusal}
      {now : tracks.MagnitudeTrack} {work' : List Float}
      → magnitudes.PatchMagnitudesPromise slab was patch work own now work' → SlotsHanded (magnitudes.patched_says own) (ranges p q r s) answer lent
      → repairs.PhPatchMagnitudesPromise slab was patch work (ranges p q r s) answer now work' lent
  rows_told {slab} {was} {patch} {work} done h =
      record {
        handed = ranges-handed (tracks.patch_number slab was patch (length work)) patch.new _ _ _ _ _ _ _ _ done.answer_is h;
        own = _;
        slices = done;
      }

  pub features-told : {rows : ℕ} {was : features.FeatureTrack} {patch : Patch} {own : Result features-done.PatchedFeatures Refusal} {now : features.FeatureTrack}
      → features.PatchFeaturesPromise rows was patch own now → SlotsHanded (features.patched_features_says own) (ranges p q r s) answer lent
      → repairs.PhPatchFeaturesPromise rows was patch (ranges p q r s) answer now lent
  features-told {rows} {was} {patch} done h =
      record {
        handed = ranges-handed (features.feature_patch_number rows was patch) patch.new _ _ _ _ _ _ _ _ done.answer_is h;
        own = _;
        slices = done;
      }
