-- The numbers of the conversions, test by test, and what a step of their loops asks. Assumes nothing.
use mathlib.Core.Path.{◌≡◌, refl, sym, ap, ◌∙◌}
use mathlib.Core.Bool.{true, false}
use mathlib.Core.List.{List, [], ◌∷◌, ◌++◌}
use Prim.Native.Nat.{ℕ, suc, ◌+◌, ◌≤◌, ◌<◌}
use native.Mathlib.Numerals.{add-one}
use lib.Dec.{leb}
use lib.ListN.{length, get_or, drop}
use lib.Seq.{drop-cons}
use borrow.Author.Tests.{le-leb, lt-leb}
use Rattle.numbers.specs.Limits.{rate_fine}
use Rattle.numbers.specs.Lists.{every, ascending}
use Rattle.numbers.specs.Refusals.{Row, too_little_room, first_of}
use Rattle.numbers.proofs.Tests.{and_left, and_right}
use Rattle.numbers.proofs.Firsts.{first_refused, first_then, first-zero}
use Rattle.numbers.proofs.Tabs.{get_or-curve, length-tab}
use Rattle.cue_points.specs.Chunks.{chunk_length, chunk_frames, chunk_fine, all_from, offset_at, offset_fine, point_frame, count_of}
use Rattle.cues.specs.Calls.{chunk_rows}
use Rattle.label_times.specs.Frames.{time_fine}
use Rattle.label_tracks.specs.Tracks.{label_bytes, text_fine, text_times, text_frames, text_rows}
use Rattle.label_cues.specs.Calls.{labels_to_cues_number, rated_rows, cues_to_labels_number}

-- ---- from labels

module _ (text : List ℕ) (rate room : ℕ) where
  abbrev points : List Row
  points = (leb (chunk_length (length (text_frames rate text))) room, too_little_room) ∷ []

  pub labels_refused : (first_of (text_rows rate text) ≡ 0 → ⊥) → labels_to_cues_number text rate room ≡ first_of (text_rows rate text)
  unfolding labels_to_cues_number
  labels_refused h = first_refused (text_rows rate text) points h

  module _ (z : first_of (text_rows rate text) ≡ 0) where
    pub labels_room : room < chunk_length (length (text_frames rate text)) → labels_to_cues_number text rate room ≡ 3
    unfolding labels_to_cues_number every
    labels_room h =
        first_then (text_rows rate text) points (first-zero (text_rows rate text) refl z) ∙ rw (lt-leb (chunk_length (length (text_frames rate text))) room h)

    pub labels_none : chunk_length (length (text_frames rate text)) ≤ room → labels_to_cues_number text rate room ≡ 0
    unfolding labels_to_cues_number every
    labels_none h =
        first_then (text_rows rate text) points (first-zero (text_rows rate text) refl z) ∙ rw (le-leb (chunk_length (length (text_frames rate text))) room h)

  -- what number 0 says
  pub labels_told : labels_to_cues_number text rate room ≡ 0 → first_of (text_rows rate text) ≡ 0
  unfolding labels_to_cues_number every
  labels_told z =
      let all = first-zero (text_rows rate text ++ points) refl z in
      let a1 = and_right (rate_fine rate) _ all in
      let a2 = and_right (text_fine text) _ a1 in
      let a3 = and_right (every (time_fine rate) (text_times text)) _ a2 in
      let e1 = and_left (rate_fine rate) _ all in
      let e2 = and_left (text_fine text) _ a1 in
      let e3 = and_left (every (time_fine rate) (text_times text)) _ a2 in
      let e4 = and_left (ascending 0 (text_frames rate text)) _ a3 in
      rw (e1, e2, e3, e4)

-- ---- from cues

module _ (chunk : List ℕ) (rate : ℕ) where
  pub rated_rate : rate_fine rate ≡ false → first_of (rated_rows chunk rate) ≡ 1
  rated_rate e = rw e

  pub rated_chunk : rate_fine rate ≡ true → first_of (rated_rows chunk rate) ≡ first_of (chunk_rows chunk)
  rated_chunk e = rw e

  -- what number 0 says
  pub rated_told : first_of (rated_rows chunk rate) ≡ 0 → (rate_fine rate ≡ true) × (first_of (chunk_rows chunk) ≡ 0)
  unfolding every
  rated_told z =
      let r = and_left (rate_fine rate) _ (first-zero (rated_rows chunk rate) refl z) in
      (r, sym (rated_chunk r) ∙ z)

module _ (chunk : List ℕ) (rate room : ℕ) where
  abbrev lines : List Row
  lines = (leb (length (label_bytes rate (chunk_frames chunk))) room, too_little_room) ∷ []

  pub cues_refused : (first_of (rated_rows chunk rate) ≡ 0 → ⊥) → cues_to_labels_number chunk rate room ≡ first_of (rated_rows chunk rate)
  unfolding cues_to_labels_number
  cues_refused h = first_refused (rated_rows chunk rate) lines h

  module _ (z : first_of (rated_rows chunk rate) ≡ 0) where
    pub cues_room : room < length (label_bytes rate (chunk_frames chunk)) → cues_to_labels_number chunk rate room ≡ 3
    unfolding cues_to_labels_number every
    cues_room h =
        first_then (rated_rows chunk rate) lines (first-zero (rated_rows chunk rate) refl z) ∙ rw (lt-leb (length (label_bytes rate (chunk_frames chunk))) room h)

    pub cues_none : length (label_bytes rate (chunk_frames chunk)) ≤ room → cues_to_labels_number chunk rate room ≡ 0
    unfolding cues_to_labels_number every
    cues_none h =
        first_then (rated_rows chunk rate) lines (first-zero (rated_rows chunk rate) refl z) ∙ rw (le-leb (length (label_bytes rate (chunk_frames chunk))) room h)

  -- what number 0 says
  pub cues_told : cues_to_labels_number chunk rate room ≡ 0 → first_of (rated_rows chunk rate) ≡ 0
  unfolding cues_to_labels_number every
  cues_told z =
      let all = first-zero (rated_rows chunk rate ++ lines) refl z in
      let a1 = and_right (rate_fine rate) _ all in
      let a2 = and_right (chunk_fine chunk) _ a1 in
      let a3 = and_right (all_from (λ i. offset_fine (offset_at chunk i)) 0 (count_of chunk)) _ a2 in
      let e1 = and_left (rate_fine rate) _ all in
      let e2 = and_left (chunk_fine chunk) _ a1 in
      let e3 = and_left (all_from (λ i. offset_fine (offset_at chunk i)) 0 (count_of chunk)) _ a2 in
      let e4 = and_left (ascending 0 (chunk_frames chunk)) _ a3 in
      rw (e1, e2, e3, e4)

-- ---- a step

-- the entry at n, and what is left behind it
pub next_entry : (fs : List ℕ) (n x : ℕ) (rest : List ℕ) → n < length fs → drop n fs ≡ x ∷ rest → (get_or fs n 0 ≡ x) × (drop (n + 1) fs ≡ rest)
next_entry fs n x rest h e =
    let both : get_or fs n 0 ∷ drop (suc n) fs ≡ x ∷ rest = sym (drop-cons fs n 0 h) ∙ e in
    let head : get_or fs n 0 ≡ x = cc in
    let tail : drop (suc n) fs ≡ rest = cc in
    (head, ap (λ (j : ℕ). drop j fs) (add-one n) ∙ tail)

-- the frames of a chunk, point by point
module _ (chunk : List ℕ) where
  pub frames_count : length (chunk_frames chunk) ≡ count_of chunk
  unfolding chunk_frames
  frames_count = length-tab (point_frame chunk) 0 (count_of chunk)

  pub frames_entry : (i : ℕ) → i < count_of chunk → get_or (chunk_frames chunk) i 0 ≡ point_frame chunk i
  unfolding chunk_frames
  frames_entry i h = get_or-curve (point_frame chunk) (count_of chunk) i 0 h
