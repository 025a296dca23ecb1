-- What number 0 says of a patch of features, row by row of the table, and what it asks for.
use mathlib.Core.Bool.{true}
use mathlib.Core.Path.{◌≡◌}
use Prim.Native.Nat.{ℕ, ◌≤◌}
use borrow.Author.Tests.{leb-true, le-leb}
use lib.Dec.{leb}
use lib.ListN.{length}
use Rattle.numbers.proofs.Tests.{and_left, and_right, and_both, lowest-zero}
use Rattle.numbers.specs.Limits.{most_features, feature_width, value_fine}
use Rattle.numbers.specs.Lists.{every}
use Rattle.patches.proofs.Wholes.{Whole, whole-told}
use Rattle.patches.specs.Patches.{Patch, whole_rows}
use Rattle.patch_features.specs.Features.{FeatureTrack, pairs, feature_patch_bounds, feature_patch_room, feature_patch_values, feature_patch_number}

pub record Bounds (rows start : ℕ) : Type 0 where
  pub rows_fit : rows ≤ most_features
  pub starts : start ≤ rows

pub bounds-told : (rows start : ℕ) → feature_patch_bounds rows start ≡ true → Bounds rows start
unfolding feature_patch_bounds
bounds-told rows start e =
    record {
      rows_fit = leb-true rows most_features (and_left (leb rows most_features) _ e);
      starts = leb-true start rows (and_right (leb rows most_features) _ e);
    }

pub bounds_asked : (rows start : ℕ) → Bounds rows start → feature_patch_bounds rows start ≡ true
unfolding feature_patch_bounds
bounds_asked rows start b = and_both (leb rows most_features) _ (le-leb rows most_features b.rows_fit) (le-leb start rows b.starts)

pub record Room (rows similarity novelty : ℕ) : Type 0 where
  pub similarity_room : pairs rows ≤ similarity
  pub novelty_room : rows ≤ novelty

pub room-told : (rows similarity novelty : ℕ) → feature_patch_room rows similarity novelty ≡ true → Room rows similarity novelty
unfolding feature_patch_room
room-told rows similarity novelty e =
    record {
      similarity_room = leb-true (pairs rows) similarity (and_left (leb (pairs rows) similarity) _ e);
      novelty_room = leb-true rows novelty (and_right (leb (pairs rows) similarity) _ e);
    }

pub room_asked : (rows similarity novelty : ℕ) → Room rows similarity novelty → feature_patch_room rows similarity novelty ≡ true
unfolding feature_patch_room
room_asked rows similarity novelty r =
    and_both (leb (pairs rows) similarity) _ (le-leb (pairs rows) similarity r.similarity_room) (le-leb rows novelty r.novelty_room)

-- what number 0 says
pub record Asked (rows : ℕ) (was : FeatureTrack) (patch : Patch) : Type 0 where
  pub bounds : Bounds rows patch.start
  pub lengths : Whole (length was.features) rows feature_width patch.start (length patch.new)
  pub rooms : Room rows (length was.similarity) (length was.novelty)
  pub new-fine : every value_fine patch.new ≡ true

pub asked : (rows : ℕ) (was : FeatureTrack) (patch : Patch) → feature_patch_number rows was patch ≡ 0 → Asked rows was patch
unfolding feature_patch_number feature_patch_values
asked rows was patch e =
    let p = lowest-zero (feature_patch_bounds rows patch.start)
    (whole_rows (length was.features) rows feature_width patch.start (length patch.new))
    (feature_patch_room rows (length was.similarity) (length was.novelty)) (feature_patch_values rows was patch.new) e in
    record {
      bounds = bounds-told _ _ p.bounds;
      lengths = whole-told _ _ _ _ _ p.lengths;
      rooms = room-told _ _ _ p.room;
      new-fine = and_left (every value_fine patch.new) _ (and_right (every value_fine was.features) _ p.values);
    }
