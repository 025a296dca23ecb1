-- Document 01, "Patching (added)", for feature rows with their similarity and novelty curves: "Copy in the rows, then write .. similarity and
-- novelty, in demand 3's slots. .. novelty from the lent similarity. The answer names first and past-last slot written per curve;
-- similarity's range ends at 17b, an empty patch names 0 to 0." Demand 3: "only pairs that touch a replaced row, and novelty slots a-7 to b+7".
use Rattle.std.specs.Prelude.{ℕ, ◌+◌, ◌-◌, ◌*◌, ◌/◌, ◌%◌, min, ◌≡◌, Bool, ◌&&◌, ◌||◌, List, [], leb, ltb, length, get_or, take, Float, Result, Ok, Err}
use Rattle.std.specs.Float.{nan}
use Rattle.numbers.specs.Limits.{most_features, feature_width, value_fine, similarity_fine}
use Rattle.numbers.specs.Lists.{filled, every}
use Rattle.numbers.specs.Refusals.{number, lowest, unless_refused}
use Rattle.numbers.specs.Rounded.{pick}
use Rattle.numbers.specs.declared.Refusal.{Refusal}
use Rattle.patches.specs.Patches.{Patch, past_row, whole_rows, edited, unless_empty, ranges, ranges_named, returned}
use Rattle.row_pairs.specs.Pairs.{band_width, similarity_at}
use Rattle.novelties.specs.Novelty.{novelty_at}
use Rattle.patch_features.specs.declared.PatchedFeatures.{PatchedFeatures}

-- what is lent and kept: the features, row behind row, and their two curves
pub record FeatureTrack : Type 0 where
  pub features : List Float
  pub similarity : List Float
  pub novelty : List Float

abbrev pub feature_track : (features similarity novelty : List Float) → FeatureTrack
feature_track features similarity novelty = record { features = features; similarity = similarity; novelty = novelty }

-- how many rows after its own a similarity reaches
abbrev pub band : ℕ
band = 16

-- how many rows a novelty reaches back, and on
abbrev pub back : ℕ
back = 8

abbrev pub on : ℕ
on = 7

-- the slots of a similarity of so many rows
abbrev pub pairs : (rows : ℕ) → ℕ
pairs rows = rows * band_width

-- ---- the slots that are named, first and past-last

-- the first pair that touches row a is that of rows max(0, a - 16) and a
abbrev pub first_pair : (start : ℕ) → ℕ
first_pair start = (start - band) * band_width + min start band

abbrev pub similarity_first : Patch → ℕ
similarity_first patch = first_pair patch.start

abbrev pub similarity_past : Patch → ℕ
similarity_past patch = past_row feature_width patch * band_width

abbrev pub novelty_first : Patch → ℕ
novelty_first patch = patch.start - on

abbrev pub novelty_past : (rows : ℕ) → Patch → ℕ
novelty_past rows patch = min (past_row feature_width patch + back) rows

-- ---- what they hold

-- row i is one of rows a up to b
unfoldable pub replaced : (a b i : ℕ) → Bool
replaced a b i = leb a i && ltb i b

-- slot k is of a pair that touches a replaced row: of row k / 17 and the row k % 17 after it
unfoldable pub touched : (a b k : ℕ) → Bool
touched a b k = replaced a b (k / band_width) || replaced a b (k / band_width + k % band_width)

-- a slot of such a pair is written from the edited rows, and any other is as it was lent
unfoldable pub mended_at : (features : List Float) → (rows a b : ℕ) → (lent : List Float) → ℕ → Float
mended_at features rows a b lent k = pick (touched a b k) (similarity_at features rows k) (get_or lent k nan)

unfoldable pub mended_similarity : (rows : ℕ) → FeatureTrack → Patch → List Float
mended_similarity rows was patch =
    filled (mended_at (edited feature_width was.features patch) rows patch.start (past_row feature_width patch) was.similarity) was.similarity
    (similarity_first patch) (similarity_past patch)

-- the novelty curve with its slots written "from the lent similarity" as it then stands, of which the first 17 F slots are the curve
unfoldable pub mended_novelty : (rows : ℕ) → FeatureTrack → Patch → List Float
mended_novelty rows was patch =
    filled (novelty_at (take (pairs rows) (mended_similarity rows was patch)) rows) was.novelty (novelty_first patch) (novelty_past rows patch)

-- what a patch that has rows makes of the track
unfoldable pub mended_features : (rows : ℕ) → FeatureTrack → Patch → FeatureTrack
mended_features rows was patch = feature_track (edited feature_width was.features patch) (mended_similarity rows was patch) (mended_novelty rows was patch)

-- ---- refusal

-- number 1 else: rows 0 to 50,000, a start of at most the row count
unfoldable pub feature_patch_bounds : (rows start : ℕ) → Bool
feature_patch_bounds rows start = leb rows most_features && leb start rows

-- number 3 else: "A lent curve too short is number 3 here, never 2"
unfoldable pub feature_patch_room : (rows similarity novelty : ℕ) → Bool
feature_patch_room rows similarity novelty = leb (pairs rows) similarity && leb rows novelty

-- number 4 else: "old and new rows and .. each lent curve's slots up to its formula; slots beyond are not read"
unfoldable pub feature_patch_values : (rows : ℕ) → FeatureTrack → (new : List Float) → Bool
feature_patch_values rows was new =
    every value_fine was.features
    && (every value_fine new && (every similarity_fine (take (pairs rows) was.similarity) && every value_fine (take rows was.novelty)))

unfoldable pub feature_patch_number : (rows : ℕ) → FeatureTrack → Patch → ℕ
feature_patch_number rows was patch =
    lowest (feature_patch_bounds rows patch.start) (whole_rows (length was.features) rows feature_width patch.start (length patch.new))
    (feature_patch_room rows (length was.similarity) (length was.novelty)) (feature_patch_values rows was patch.new)

-- ---- the call

-- What an answer says, "this paper's number and values for each of its cases". `Ok slots` is number 0 and names first and past-last slot of the
-- similarity, and of the novelty; `Err e` is the number of e in the table and names no slots.
abbrev pub patched_features_says : Result PatchedFeatures Refusal → ℕ × List ℕ
patched_features_says (Ok slots) = (0, ranges slots.similarity_first slots.similarity_past slots.novelty_first slots.novelty_past)
patched_features_says (Err e) = (number e, [])

-- the slots that a patch names
abbrev pub features_named : (rows : ℕ) → Patch → List ℕ
features_named rows patch = ranges_named patch.new (ranges (similarity_first patch) (similarity_past patch) (novelty_first patch) (novelty_past rows patch))

-- the track afterwards: a refusal and an empty patch change nothing
unfoldable pub features_after : (rows : ℕ) → FeatureTrack → Patch → FeatureTrack
features_after rows was patch = unless_refused (feature_patch_number rows was patch) (unless_empty patch.new (mended_features rows was patch) was) was

-- What `patch_features` promises: its answer, and the track afterwards, each slot of it.
pub record PatchFeaturesPromise (rows : ℕ) (was : FeatureTrack) (patch : Patch) (answer : Result PatchedFeatures Refusal) (now : FeatureTrack) : Type 0 where
  pub answer_is : patched_features_says answer ≡ returned (feature_patch_number rows was patch) (features_named rows patch)
  pub track_is : now ≡ features_after rows was patch
