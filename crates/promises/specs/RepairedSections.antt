-- Demand 3, "Likewise for feature rows with their similarity and novelty curves": what the user of such a track may do with it, and what is then the
-- same of it and of a full run on its last rows. That it is, say the first two theorems of proofs/RepairedSections. The words are those of Repaired.
use Rattle.std.specs.Prelude.{ℕ, ◌≤◌, ◌≡◌, List, length, take, Float}
use Rattle.novelties.specs.Novelty.{NoveltyPromise}
use Rattle.sections.specs.Outcomes.{SectionsSaid}
use Rattle.patch_features.specs.Features.{FeatureTrack, feature_track, pairs}
use Rattle.patch_features.specs.Runs.{RanFeatures}

-- ---- what is done with it

-- The same track, in other slices or with other values behind it: the rows, and the first 17 F and F slots of its curves. (Rows have nothing behind
-- them: a slab of another length than F rows is refused.)
pub record RelentFeatures (rows : ℕ) (was now : FeatureTrack) : Type 0 where
  pub same_rows : now.features ≡ was.features
  pub same_similarity : take (pairs rows) now.similarity ≡ take (pairs rows) was.similarity
  pub same_novelty : take rows now.novelty ≡ take rows was.novelty
  pub similarity_room : pairs rows ≤ length now.similarity
  pub novelty_room : rows ≤ length now.novelty

-- Step after step, in any order and as often as wanted. A refused `novelty` leaves the track as it is, and is no step; a full run begins anew,
-- and `boundaries` writes no curve.
pub data UsedFeatures (rows : ℕ) : (was now : FeatureTrack) → Type 0 where
  -- nothing more;
  ends : {was : FeatureTrack} → UsedFeatures rows was was
  -- "Any run of patches, refused ones among them";
  runs : {was mid now : FeatureTrack} → RanFeatures rows was mid → UsedFeatures rows mid now → UsedFeatures rows was now
  -- lending it in other slices, writing behind it, or writing over it what it holds;
  relends : {was mid now : FeatureTrack} → RelentFeatures rows was mid → UsedFeatures rows mid now → UsedFeatures rows was now
  -- `novelty` of its similarity as it then is, which isn't refused, and whose curve is the track's from then on, written over the old one or elsewhere.
  analyses : {was now : FeatureTrack} {lent novelty : List Float} → NoveltyPromise (take (pairs rows) was.similarity) rows lent 0 novelty
      → UsedFeatures rows (feature_track was.features was.similarity novelty) now → UsedFeatures rows was now

-- ---- what is the same

-- Of a track of features with its curves as patches left them: what `boundaries` answers and lists of the patched novelty, and the full run
-- on the patched rows, `similarity`, `novelty` and `boundaries`: its two numbers and curves, its answer and its list.
pub record SameSections
    (rows : ℕ) (patched : FeatureTrack) (answer : SectionsSaid) (begins : List ℕ)
    (first_number : ℕ) (full_similarity : List Float) (second_number : ℕ) (full_novelty : List Float)
    (full_answer : SectionsSaid) (full_begins : List ℕ) : Type 0 where
  -- none of the full run's calls is refused
  pub similarity_accepted : first_number ≡ 0
  pub novelty_accepted : second_number ≡ 0
  pub accepted : full_answer.number ≡ 0
  -- both patched curves are the full run's, on their 17 F and F slots
  pub same_similarity : take (pairs rows) patched.similarity ≡ take (pairs rows) full_similarity
  pub same_novelty : take rows patched.novelty ≡ take rows full_novelty
  -- how many sections and boundaries there are, and the confidence
  pub same_answer : answer ≡ full_answer
  -- each slot of the lent list: the rows at which a section begins come first
  pub same_begins : begins ≡ full_begins

-- The same where the two are lent different slices: each slot that is written, and not those behind, which stay as each was lent them.
pub record SameSectionsElsewhere
    (rows : ℕ) (patched : FeatureTrack) (answer : SectionsSaid) (begins : List ℕ)
    (first_number : ℕ) (full_similarity : List Float) (second_number : ℕ) (full_novelty : List Float)
    (full_answer : SectionsSaid) (full_begins : List ℕ) : Type 0 where
  pub similarity_accepted : first_number ≡ 0
  pub novelty_accepted : second_number ≡ 0
  pub accepted : full_answer.number ≡ 0
  pub same_similarity : take (pairs rows) patched.similarity ≡ take (pairs rows) full_similarity
  pub same_novelty : take rows patched.novelty ≡ take rows full_novelty
  pub same_answer : answer ≡ full_answer
  -- the rows at which a section begins, as many as the answer says
  pub same_begins : take answer.count begins ≡ take answer.count full_begins
