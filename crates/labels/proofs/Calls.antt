-- The numbers of the calls, test by test. Assumes nothing.
use mathlib.Core.Path.{◌≡◌, refl, sym, ◌∙◌}
use mathlib.Core.Bool.{true, false}
use mathlib.Core.List.{List, [], ◌∷◌, ◌++◌}
use Prim.Native.Nat.{ℕ, ◌≤◌, ◌<◌}
use lib.Dec.{leb}
use lib.ListN.{length}
use borrow.Author.Tests.{le-leb, lt-leb, leb-true}
use Rattle.numbers.specs.Limits.{rate_fine, frame_fine}
use Rattle.numbers.specs.Lists.{every, ascending}
use Rattle.numbers.specs.Refusals.{Row, too_little_room, first_of}
use Rattle.numbers.proofs.Tests.{and_left, and_right}
use Rattle.numbers.proofs.Firsts.{first_refused, first_then, first-zero}
use Rattle.lists.specs.Grids.{grid_rows}
use Rattle.lists.proofs.Grids.{Grid, grid-told}
use Rattle.label_times.specs.Frames.{time_fine}
use Rattle.label_tracks.specs.Tracks.{label_bytes, text_fine, text_times, text_frames, text_rows}
use Rattle.labels.specs.Calls.{frames_rows, write_labels_number, read_labels_number}

-- ---- frames at a rate

module _ (frames : List ℕ) (rate : ℕ) where
  pub frames_rate : rate_fine rate ≡ false → first_of (frames_rows frames rate) ≡ 1
  frames_rate e = rw e

  pub frames_grid : rate_fine rate ≡ true → first_of (frames_rows frames rate) ≡ first_of (grid_rows frames)
  frames_grid e = rw e

  -- what number 0 says
  pub frames_told : first_of (frames_rows frames rate) ≡ 0 → (rate_fine rate ≡ true) × Grid frames
  unfolding every
  frames_told z =
      let r = and_left (rate_fine rate) _ (first-zero (frames_rows frames rate) refl z) in
      (r, grid-told frames (sym (frames_grid r) ∙ z))

  pub frames_none : rate_fine rate ≡ true → Grid frames → first_of (frames_rows frames rate) ≡ 0
  frames_none r g = let l = g.listed in let a = g.ascend in rw (r, l, a)

-- ---- writing

module _ (frames : List ℕ) (rate room : ℕ) where
  abbrev bytes : List Row
  bytes = (leb (length (label_bytes rate frames)) room, too_little_room) ∷ []

  pub write_refused : (first_of (frames_rows frames rate) ≡ 0 → ⊥) → write_labels_number frames rate room ≡ first_of (frames_rows frames rate)
  unfolding write_labels_number
  write_refused h = first_refused (frames_rows frames rate) bytes h

  module _ (z : first_of (frames_rows frames rate) ≡ 0) where
    pub write_room : room < length (label_bytes rate frames) → write_labels_number frames rate room ≡ 3
    unfolding write_labels_number every
    write_room h = first_then (frames_rows frames rate) bytes (first-zero (frames_rows frames rate) refl z) ∙ rw (lt-leb (length (label_bytes rate frames)) room h)

    pub write_none : length (label_bytes rate frames) ≤ room → write_labels_number frames rate room ≡ 0
    unfolding write_labels_number every
    write_none h = first_then (frames_rows frames rate) bytes (first-zero (frames_rows frames rate) refl z) ∙ rw (le-leb (length (label_bytes rate frames)) room h)

  -- what number 0 says
  pub write_told : write_labels_number frames rate room ≡ 0 → (rate_fine rate ≡ true) × (every frame_fine frames ≡ true) × (ascending 0 frames ≡ true)
  unfolding write_labels_number every
  write_told z =
      let all = first-zero (frames_rows frames rate ++ bytes) refl z in
      let a1 = and_right (rate_fine rate) _ all in
      let a2 = and_right (every frame_fine frames) _ a1 in
      (and_left (rate_fine rate) _ all, and_left (every frame_fine frames) _ a1, and_left (ascending 0 frames) _ a2)

-- ---- reading

module _ (text : List ℕ) (rate room : ℕ) where
  abbrev slots : List Row
  slots = (leb (length (text_times text)) room, too_little_room) ∷ []

  pub read_refused : (first_of (text_rows rate text) ≡ 0 → ⊥) → read_labels_number text rate room ≡ first_of (text_rows rate text)
  unfolding read_labels_number
  read_refused h = first_refused (text_rows rate text) slots h

  module _ (z : first_of (text_rows rate text) ≡ 0) where
    pub read_room : room < length (text_times text) → read_labels_number text rate room ≡ 3
    unfolding read_labels_number every
    read_room h = first_then (text_rows rate text) slots (first-zero (text_rows rate text) refl z) ∙ rw (lt-leb (length (text_times text)) room h)

    pub read_none : length (text_times text) ≤ room → read_labels_number text rate room ≡ 0
    unfolding read_labels_number every
    read_none h = first_then (text_rows rate text) slots (first-zero (text_rows rate text) refl z) ∙ rw (le-leb (length (text_times text)) room h)

  -- what number 0 says
  pub read_told : read_labels_number text rate room ≡ 0 → (first_of (text_rows rate text) ≡ 0) × (length (text_times text) ≤ room)
  unfolding read_labels_number every
  read_told z =
      let all = first-zero (text_rows rate text ++ slots) refl z in
      let a1 = and_right (rate_fine rate) _ all in
      let a2 = and_right (text_fine text) _ a1 in
      let a3 = and_right (every (time_fine rate) (text_times text)) _ a2 in
      let a4 = and_right (ascending 0 (text_frames rate text)) _ a3 in
      let e1 = and_left (rate_fine rate) _ all in
      let e2 = and_left (text_fine text) _ a1 in
      let e3 = and_left (every (time_fine rate) (text_times text)) _ a2 in
      let e4 = and_left (ascending 0 (text_frames rate text)) _ a3 in
      (rw (e1, e2, e3, e4), leb-true _ _ (and_left (leb (length (text_times text)) room) _ a4))
