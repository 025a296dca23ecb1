-- Demand 3, "Likewise for feature rows with their similarity and novelty curves": a repaired track has the sections that a full run would give. The
-- first theorem says so, and the second says it for two sets of slices. Those below say what one patch does, what any run of patches does, and what
-- follows for `boundaries`; SectionRuns has the parts of the first two. The words are those of Repaired. What a theorem asks is written in it; no axiom
-- stands behind one.
use mathlib.Core.List.{List, [], ◌∷◌}
use mathlib.Core.Bool.{true}
use mathlib.Core.Path.{◌≡◌, sym}
use Prim.Native.Nat.{ℕ, zero, suc, ◌+◌, ◌-◌, ◌*◌, ◌≤◌, min}
use lib.Ieee.{Float}
use lib.ListN.{length, take}
use Rattle.std.specs.Prelude.{Result, Ok, Err}
use Rattle.numbers.specs.Limits.{feature_width}
use Rattle.numbers.specs.declared.Refusal.{Refusal}
use Rattle.similarities.specs.Similarity.{SimilarityPromise}
use Rattle.novelties.specs.Novelty.{NoveltyPromise}
use Rattle.sections.specs.Boundaries.{grid_fine}
use Rattle.sections.specs.Outcomes.{SectionsSaid, BoundariesPromise}
use Rattle.patches.specs.Patches.{Patch, patch_of, past_row, edited, returned}
use Rattle.patches.proofs.Answers.{same-slots, same_ends, some-slots}
use Rattle.patch_features.specs.declared.PatchedFeatures.{PatchedFeatures}
use Rattle.patch_features.specs.Features.{
  FeatureTrack,
  feature_track,
  pairs,
  feature_patch_number,
  patched_features_says,
  features_named,
  PatchFeaturesPromise,
}
use Rattle.patch_features.specs.Runs.{novelty_curve, FreshFeatures, KeptFeatures, SoundFeatures, GoodFeatures, analysed_features, RanFeatures, stays}
use Rattle.patch_features.proofs.Repairs as repairs
use Rattle.promises.specs.RepairedSections.{UsedFeatures, SameSections, SameSectionsElsewhere}
use Rattle.promises.proofs.Determined.{boundaries}
use Rattle.promises.proofs.SectionRuns.{full_run_is_fresh, full_run_is_sound, used_keeps, same_as_full_run, same_elsewhere}

-- Whatever was done with a track after a full run, the sections of its novelty are those of a full run on its rows.
pub repaired_is_a_full_run :
    (rows : ℕ) {features : List Float}
    -- First `similarity` and `novelty`, the calls of a full run that leave a curve, on these rows, into any slices. Neither is refused.
    {similarity₀ similarity₁ novelty₀ novelty₁ : List Float}
    → SimilarityPromise features rows similarity₀ 0 similarity₁
    → NoveltyPromise (take (pairs rows) similarity₁) rows novelty₀ 0 novelty₁
    -- Then, on those rows with the similarity and the novelty that they left, any run of patches, other slices lent, values written behind the curves,
    -- and novelties in between, in any order.
    → {patched : FeatureTrack} → UsedFeatures rows (feature_track features similarity₁ novelty₁) patched
    -- A row's length in samples and a rate that are fine, any cap on sections,
    → (samples rate max_sections : ℕ) → grid_fine samples rate ≡ true
    -- and slices with room: seventeen slots a row for similarity, one a row for the others.
    → (similarity novelty : List Float) → pairs rows ≤ length similarity → rows ≤ length novelty
    → (begins : List ℕ) (work : List Float) → rows ≤ length begins → rows ≤ length work
    -- On the one hand `boundaries` of the patched novelty, lent these slices.
    → {answer : SectionsSaid} {begins' : List ℕ} {work' : List Float}
    → BoundariesPromise (take rows patched.novelty) samples rate max_sections begins work answer begins' work'
    -- On the other a full run on the patched rows, lent the same: `similarity`, `novelty` of what it left, `boundaries` of what that left.
    → {m n : ℕ} {full_similarity full_novelty : List Float} {full_answer : SectionsSaid} {full_begins : List ℕ} {full_work : List Float}
    → SimilarityPromise patched.features rows similarity m full_similarity
    → NoveltyPromise (take (pairs rows) full_similarity) rows novelty n full_novelty
    → BoundariesPromise (take rows full_novelty) samples rate max_sections begins work full_answer full_begins full_work
    -- No call of the full run is refused, and similarity, novelty, answer and listed rows are the same.
    → SameSections rows patched answer begins' m full_similarity n full_novelty full_answer full_begins
repaired_is_a_full_run rows first second used samples rate max_sections grid similarity novelty r t begins work u v again one two three =
    let now = used_keeps rows used (full_run_is_fresh _ rows _ _ first second) (full_run_is_sound _ rows _ _ first second) in
    same_as_full_run rows now.1 stays samples rate max_sections grid similarity novelty r t begins work u v one two three now.0 again

-- The same where the two are lent different slices, as sections that are kept and those that are made to compare them with.
pub repaired_is_a_full_run_elsewhere :
    -- A track that began and was used as above, a row's length and a rate that are fine, and any cap on sections.
    (rows : ℕ) {features similarity₀ similarity₁ novelty₀ novelty₁ : List Float}
    → SimilarityPromise features rows similarity₀ 0 similarity₁
    → NoveltyPromise (take (pairs rows) similarity₁) rows novelty₀ 0 novelty₁
    → {patched : FeatureTrack} → UsedFeatures rows (feature_track features similarity₁ novelty₁) patched
    → (samples rate max_sections : ℕ) → grid_fine samples rate ≡ true
    -- On the one hand `boundaries` of the patched novelty, lent slices with room.
    → (begins : List ℕ) (work : List Float) → rows ≤ length begins → rows ≤ length work
    → {answer : SectionsSaid} {begins' : List ℕ} {work' : List Float}
    → BoundariesPromise (take rows patched.novelty) samples rate max_sections begins work answer begins' work'
    -- On the other a full run on the patched rows, lent others with room.
    → (similarity novelty : List Float) → pairs rows ≤ length similarity → rows ≤ length novelty
    → (full_lent : List ℕ) (full_spare : List Float) → rows ≤ length full_lent → rows ≤ length full_spare
    → {m n : ℕ} {full_similarity full_novelty : List Float} {full_answer : SectionsSaid} {full_begins : List ℕ} {full_work : List Float}
    → SimilarityPromise patched.features rows similarity m full_similarity
    → NoveltyPromise (take (pairs rows) full_similarity) rows novelty n full_novelty
    → BoundariesPromise (take rows full_novelty) samples rate max_sections full_lent full_spare full_answer full_begins full_work
    -- No call of the full run is refused, and similarity, novelty, answer and listed rows are the same, as many as there are.
    → SameSectionsElsewhere rows patched answer begins' m full_similarity n full_novelty full_answer full_begins
repaired_is_a_full_run_elsewhere rows first second used samples rate most grid begins work u v again similarity novelty r t lent spare x y one two three =
    let now = used_keeps rows used (full_run_is_fresh _ rows _ _ first second) (full_run_is_sound _ rows _ _ first second) in
    same_elsewhere rows now.0 now.1 samples rate most grid begins work u v similarity novelty r t lent spare x y one two three again

-- ---- one patch

-- Where the lent curves were those of the rows, they are those of the edited rows afterwards, bit for bit, whatever the call answers.
pub patching_equals_starting_over : (rows : ℕ) (was : FeatureTrack) (patch : Patch) (answer : Result PatchedFeatures Refusal) (now : FeatureTrack)
    → FreshFeatures rows was → PatchFeaturesPromise rows was patch answer now → FreshFeatures rows now
patching_equals_starting_over = repairs.call_is_fresh

-- The rows are then the edited ones.
pub rows_are_edited : (rows : ℕ) (was : FeatureTrack) (patch : Patch) (slots : PatchedFeatures) (now : FeatureTrack)
    → PatchFeaturesPromise rows was patch (Ok slots) now
    → now.features ≡ edited feature_width was.features patch
rows_are_edited = repairs.accepted_is_edited

named : (rows start : ℕ) (x : Float) (xs : List Float) (n : ℕ) (slots : PatchedFeatures)
    → patched_features_says (Ok slots) ≡ returned n (features_named rows (patch_of start (x ∷ xs)))
    → let past = past_row feature_width (patch_of start (x ∷ xs)) in
    (slots.similarity_first ≡ (start - 16) * 17 + min start 16) × (slots.similarity_past ≡ past * 17) × (slots.novelty_first ≡ start - 7)
    × (slots.novelty_past ≡ min (past + 8) rows)
named rows start x xs (suc n) slots e = absurd (some-slots (sym (same-slots e)))
named rows start x xs zero slots e = same_ends (same-slots e)

-- The slots that it names are demand 3's: from pair (max(0, a - 16), a) to 17·b, and novelty a-7 to b+7, cut at the ends.
pub names_its_slots : (rows : ℕ) (was : FeatureTrack) (start : ℕ) (x : Float) (xs : List Float) (slots : PatchedFeatures) (now : FeatureTrack)
    → PatchFeaturesPromise rows was (patch_of start (x ∷ xs)) (Ok slots) now
    → let past = past_row feature_width (patch_of start (x ∷ xs)) in
    (slots.similarity_first ≡ (start - 16) * 17 + min start 16) × (slots.similarity_past ≡ past * 17) × (slots.novelty_first ≡ start - 7)
    × (slots.novelty_past ≡ min (past + 8) rows)
names_its_slots rows was start x xs slots now done =
    named rows start x xs (feature_patch_number rows was (patch_of start (x ∷ xs))) slots done.answer_is

-- Outside them, the pairs that touch one of them and the slots that the answer names nothing differs.
pub outside_stays : (rows : ℕ) (was : FeatureTrack) (patch : Patch) (slots : PatchedFeatures) (now : FeatureTrack)
    → PatchFeaturesPromise rows was patch (Ok slots) now
    → KeptFeatures patch slots.similarity_first slots.similarity_past slots.novelty_first slots.novelty_past was now
outside_stays = repairs.outside_stays

-- An empty patch changes nothing, and a refused one changes nothing.
pub empty_changes_nothing : (rows : ℕ) (was : FeatureTrack) (start : ℕ) (answer : Result PatchedFeatures Refusal) (now : FeatureTrack)
    → PatchFeaturesPromise rows was (patch_of start []) answer now → now ≡ was
empty_changes_nothing = repairs.empty_changes_nothing

pub refused_changes_nothing : (rows : ℕ) (was : FeatureTrack) (patch : Patch) (e : Refusal) (now : FeatureTrack)
    → PatchFeaturesPromise rows was patch (Err e) now → now ≡ was
refused_changes_nothing = repairs.refused_changes_nothing

-- ---- any run of patches

-- It ends as one fresh analysis of the last rows, the slots behind the curves as they were lent.
pub any_run_is_one_analysis : (rows : ℕ) (lent : FeatureTrack) {now : FeatureTrack} → RanFeatures rows (analysed_features rows lent) now
    → now ≡ analysed_features rows (feature_track now.features lent.similarity lent.novelty)
any_run_is_one_analysis rows lent ran = repairs.calls_are_one_analysis rows lent ran

-- A patch that is no one's mistake is accepted at any place of a run.
pub good_is_accepted : (rows : ℕ) (lent : FeatureTrack) {now : FeatureTrack} (patch : Patch) → SoundFeatures rows lent
    → RanFeatures rows (analysed_features rows lent) now → GoodFeatures rows patch
    → feature_patch_number rows now patch ≡ 0
good_is_accepted = repairs.good_is_accepted_after_calls

-- ---- what is computed from patched curves

-- The sections of the novelty curve that a run of patches left are those of a full run on the last rows.
pub same-sections : (rows : ℕ) (was last : FeatureTrack) → FreshFeatures rows was → RanFeatures rows was last
    → (samples rate max_sections : ℕ) (bounds : List ℕ) (work : List Float) {a b : SectionsSaid} {x y : List ℕ} {v w : List Float}
    → BoundariesPromise (take rows last.novelty) samples rate max_sections bounds work a x v
    → BoundariesPromise (novelty_curve rows last.features) samples rate max_sections bounds work b y w
    → (a.number ≡ b.number) × (a.sections ≡ b.sections) × (a.count ≡ b.count) × (a.confidence ≡ b.confidence) × (x ≡ y)
same-sections rows was last fresh ran samples rate max_sections bounds work p q =
    let one = (boundaries _ _ _ bounds work (rw (repairs.calls_end_fresh rows fresh ran).novelty at p) q).0 in
    (one.0, one.1, one.2, one.3, one.4)
