-- Demand 3: "Likewise for feature rows with their similarity and novelty curves .. Any run of patches, refused ones among them, ends as one
-- fresh analysis of the last rows." The words in which that is said; proofs/Repairs has the theorems.
use Rattle.std.specs.Prelude.{ℕ, ◌+◌, ◌*◌, ◌≤◌, ◌<◌, ◌≡◌, true, false, ◌⊎◌, List, [], length, get_or, take, Float, Result, Err}
use Rattle.std.specs.Float.{nan}
use Rattle.numbers.specs.Limits.{most_features, feature_width, value_fine}
use Rattle.numbers.specs.Lists.{curve, filled, row, every}
use Rattle.numbers.specs.declared.Refusal.{Refusal}
use Rattle.row_pairs.specs.Pairs.{similarity_at}
use Rattle.novelties.specs.Novelty.{novelty_at}
use Rattle.patches.specs.Patches.{Patch, patch_of, past_row}
use Rattle.patch_features.specs.declared.PatchedFeatures.{PatchedFeatures}
use Rattle.patch_features.specs.Features.{FeatureTrack, feature_track, pairs, touched, PatchFeaturesPromise}

-- the curves that demand 2 gives rows of features
unfoldable pub similarity_curve : (rows : ℕ) → (features : List Float) → List Float
similarity_curve rows features = curve (similarity_at features rows) (pairs rows)

unfoldable pub novelty_curve : (rows : ℕ) → (features : List Float) → List Float
novelty_curve rows features = curve (novelty_at (similarity_curve rows features) rows) rows

-- the lent curves are those of the rows, on their first slots; what follows them is the caller's
pub record FreshFeatures (rows : ℕ) (lent : FeatureTrack) : Type 0 where
  pub similarity : take (pairs rows) lent.similarity ≡ similarity_curve rows lent.features
  pub novelty : take rows lent.novelty ≡ novelty_curve rows lent.features

-- nothing differs but rows a up to b, similarity slots f up to g of pairs that touch one of them, and novelty slots t up to u
pub record KeptFeatures (patch : Patch) (f g t u : ℕ) (was now : FeatureTrack) : Type 0 where
  pub features_length : length now.features ≡ length was.features
  pub similarity_length : length now.similarity ≡ length was.similarity
  pub novelty_length : length now.novelty ≡ length was.novelty
  pub rows_stay : (i : ℕ) → (i < patch.start) ⊎ (past_row feature_width patch ≤ i) → row now.features feature_width i ≡ row was.features feature_width i
  pub similarity_stays : (k : ℕ) → (k < f) ⊎ (g ≤ k) → get_or now.similarity k nan ≡ get_or was.similarity k nan
  pub untouched_stay : (k : ℕ) → touched patch.start (past_row feature_width patch) k ≡ false → get_or now.similarity k nan ≡ get_or was.similarity k nan
  pub novelty_stays : (i : ℕ) → (i < t) ⊎ (u ≤ i) → get_or now.novelty i nan ≡ get_or was.novelty i nan

-- a track that the analysis accepts
pub record SoundFeatures (rows : ℕ) (lent : FeatureTrack) : Type 0 where
  pub rows_fit : rows ≤ most_features
  pub whole : length lent.features ≡ rows * feature_width
  pub fine : every value_fine lent.features ≡ true
  pub similarity_room : pairs rows ≤ length lent.similarity
  pub novelty_room : rows ≤ length lent.novelty

-- a patch that is no one's mistake: so many whole rows that end inside, of fine values
pub record GoodFeatures (rows : ℕ) (patch : Patch) : Type 0 where
  pub count : ℕ
  pub whole : length patch.new ≡ count * feature_width
  pub inside : patch.start + count ≤ rows
  pub fine : every value_fine patch.new ≡ true

-- one analysis from nothing: what `similarity` and then `novelty` write into lent curves
unfoldable pub analysed_features : (rows : ℕ) → FeatureTrack → FeatureTrack
analysed_features rows lent =
    feature_track lent.features (filled (similarity_at lent.features rows) lent.similarity 0 (pairs rows))
    (filled (novelty_at (similarity_curve rows lent.features) rows) lent.novelty 0 rows)

-- "Any run of patches, refused ones among them": calls one after the other, by what each promises. A call of the track's own rows may answer
-- anything; one of any rows is refused, or has nothing new and may answer anything. What is left is a call of other rows that is accepted with
-- something new: of a sound track there is none, since its length tells its rows.
pub data RanFeatures (rows : ℕ) : (was now : FeatureTrack) → Type 0 where
  stays : {was : FeatureTrack} → RanFeatures rows was was
  patches : {was mid now : FeatureTrack} {patch : Patch} {answer : Result PatchedFeatures Refusal}
      → PatchFeaturesPromise rows was patch answer mid → RanFeatures rows mid now → RanFeatures rows was now
  refuses : {was mid now : FeatureTrack} {rows' : ℕ} {e : Refusal} {patch : Patch}
      → PatchFeaturesPromise rows' was patch (Err e) mid → RanFeatures rows mid now → RanFeatures rows was now
  empties : {was mid now : FeatureTrack} {rows' start : ℕ} {answer : Result PatchedFeatures Refusal}
      → PatchFeaturesPromise rows' was (patch_of start []) answer mid → RanFeatures rows mid now → RanFeatures rows was now
