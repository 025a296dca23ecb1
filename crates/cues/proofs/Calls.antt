-- The numbers of the calls, test by test. Assumes nothing.
use mathlib.Core.Path.{◌≡◌, refl, sym, ap, ◌∙◌}
use mathlib.Core.Bool.{Bool, true, false, ◌&&◌}
use mathlib.Core.List.{List, [], ◌∷◌, ◌++◌}
use Prim.Native.Nat.{ℕ, suc, ◌+◌, ◌-◌, ◌≤◌, ◌<◌}
use native.Mathlib.Numerals.{add-one}
use native.Mathlib.Omega.{arith}
use lib.Dec.{leb}
use lib.ListN.{length}
use borrow.Author.Tests.{le-leb, lt-leb, leb-true}
use Rattle.numbers.specs.Lists.{every, tab, ascending}
use Rattle.numbers.specs.Refusals.{Row, too_little_room, first_of}
use Rattle.numbers.proofs.Tests.{and_left, and_right}
use Rattle.numbers.proofs.Firsts.{first_refused, first_then, first-zero}
use Rattle.lists.specs.declared.Reading.{Reading}
use Rattle.lists.specs.Grids.{grid_rows, unread, read_number}
use Rattle.lists.proofs.Readings.{read_one, read_missed, read_later}
use Rattle.lists.proofs.Grids.{Grid, grid_of_lem}
use Rattle.numbers.specs.Limits.{frame_fine}
use Rattle.cue_points.specs.Chunks.{chunk_length, count_of, head_fine, all_from, point_fine, chunk_fine, offset_at, offset_fine, offset_read, point_frame, chunk_frames}
use Rattle.cue_points.proofs.Heads.{head_says, offset_counts, offset_misses}
use Rattle.cues.specs.Calls.{chunk_rows, write_cues_number, read_cues_number}

-- ---- a chunk

module _ (c : List ℕ) where
  pub chunk_head : head_fine c ≡ false → first_of (chunk_rows c) ≡ 9
  unfolding chunk_fine
  chunk_head e = rw e

  module _ (h : head_fine c ≡ true) where
    pub chunk_points : all_from (point_fine c) 0 (count_of c) ≡ false → first_of (chunk_rows c) ≡ 9
    unfolding chunk_fine
    chunk_points e = rw (h, e)

    -- of points that are all of the form, the offsets and the frames decide
    pub chunk_judged : all_from (point_fine c) 0 (count_of c) ≡ true
        → first_of (chunk_rows c) ≡ read_number unread (all_from (λ i. offset_fine (offset_at c i)) 0 (count_of c)) (tab (point_frame c) 0 (count_of c))
    unfolding read_number chunk_fine chunk_frames
    chunk_judged p = rw (h, p)

  -- what number 0 says
  pub record Readable : Type 0 where
    pub fine : chunk_fine c ≡ true
    pub whole : length c ≡ chunk_length (count_of c)
    pub offsets : all_from (λ i. offset_fine (offset_at c i)) 0 (count_of c) ≡ true
    pub ascend : ascending 0 (chunk_frames c) ≡ true

  pub chunk_told : first_of (chunk_rows c) ≡ 0 → Readable
  unfolding every chunk_fine
  chunk_told z =
      let all = first-zero (chunk_rows c) refl z in
      let rest = and_right (chunk_fine c) _ all in
      let last = and_right (all_from (λ i. offset_fine (offset_at c i)) 0 (count_of c)) _ rest in
      let fine = and_left (chunk_fine c) _ all in
      record {
        fine = fine;
        whole = (head_says c (and_left (head_fine c) _ fine)).whole;
        offsets = and_left (all_from (λ i. offset_fine (offset_at c i)) 0 (count_of c)) _ rest;
        ascend = and_left (ascending 0 (chunk_frames c)) _ last;
      }

-- ---- one point more that is read

-- the number of what was read and of the points from i on, where there are n
abbrev pub judged_from : List ℕ → Reading → (i n : ℕ) → ℕ
judged_from c j i n = read_number j (all_from (λ k. offset_fine (offset_at c k)) i (n - i)) (tab (point_frame c) i (n - i))

module _ (c : List ℕ) (j : Reading) (i n : ℕ) where
  judged_suc : (m : ℕ) → read_number j (all_from (λ k. offset_fine (offset_at c k)) i (suc m)) (tab (point_frame c) i (suc m))
      ≡ read_number (offset_read j (offset_at c i)) (all_from (λ k. offset_fine (offset_at c k)) (suc i) m) (tab (point_frame c) (suc i) m)
  unfolding all_from
  judged_suc m = go (offset_fine (offset_at c i)) refl
    where
      go : (b : Bool) → offset_fine (offset_at c i) ≡ b
          → read_number j (offset_fine (offset_at c i) && all_from (λ k. offset_fine (offset_at c k)) (suc i) m) (point_frame c i ∷ tab (point_frame c) (suc i) m)
          ≡ read_number (offset_read j (offset_at c i)) (all_from (λ k. offset_fine (offset_at c k)) (suc i) m) (tab (point_frame c) (suc i) m)
      go true e =
          ap (λ (b : Bool). read_number j (b && all_from (λ k. offset_fine (offset_at c k)) (suc i) m) (point_frame c i ∷ tab (point_frame c) (suc i) m)) e
          ∙ sym (read_one j (point_frame c i) (all_from (λ k. offset_fine (offset_at c k)) (suc i) m) (tab (point_frame c) (suc i) m))
          ∙ ap (λ (k : Reading). read_number k (all_from (λ k. offset_fine (offset_at c k)) (suc i) m) (tab (point_frame c) (suc i) m)) (sym (offset_counts j
          (offset_at c i) e))
      go false e =
          ap (λ (b : Bool). read_number j (b && all_from (λ k. offset_fine (offset_at c k)) (suc i) m) (point_frame c i ∷ tab (point_frame c) (suc i) m)) e
          ∙ read_later j (point_frame c i ∷ tab (point_frame c) (suc i) m)
          ∙ sym (read_missed j (all_from (λ k. offset_fine (offset_at c k)) (suc i) m) (tab (point_frame c) (suc i) m))
          ∙ ap (λ (k : Reading). read_number k (all_from (λ k. offset_fine (offset_at c k)) (suc i) m) (tab (point_frame c) (suc i) m)) (sym (offset_misses j
          (offset_at c i) e))

  pub judged_step : i < n → judged_from c j i n ≡ judged_from c (offset_read j (offset_at c i)) (i + 1) n
  judged_step h =
      let e : n - i ≡ suc (n - (i + 1)) = omega arith in
      ap (λ (m : ℕ). read_number j (all_from (λ k. offset_fine (offset_at c k)) i m) (tab (point_frame c) i m)) e
      ∙ judged_suc (n - (i + 1))
      ∙ ap (λ (s : ℕ). read_number (offset_read j (offset_at c i)) (all_from (λ k. offset_fine (offset_at c k)) s (n - (i + 1))) (tab (point_frame c) s (n -
      (i + 1)))) (sym (add-one i))

  pub judged_end : n ≤ i → judged_from c j i n ≡ read_number j true []
  unfolding all_from
  judged_end h =
      let e : n - i ≡ 0 = omega arith in
      ap (λ (m : ℕ). read_number j (all_from (λ k. offset_fine (offset_at c k)) i m) (tab (point_frame c) i m)) e

-- before the first
pub judged_start : (c : List ℕ) (j : Reading) (n : ℕ) → read_number j (all_from (λ k. offset_fine (offset_at c k)) 0 n) (tab
    (point_frame c) 0 n) ≡ judged_from c j 0 n
judged_start c j n =
    let e : n ≡ n - 0 = omega arith in
    ap (λ (m : ℕ). read_number j (all_from (λ k. offset_fine (offset_at c k)) 0 m) (tab (point_frame c) 0 m)) e

-- ---- reading

module _ (c : List ℕ) (room : ℕ) where
  abbrev slots : List Row
  slots = (leb (count_of c) room, too_little_room) ∷ []

  pub read_refused : (first_of (chunk_rows c) ≡ 0 → ⊥) → read_cues_number c room ≡ first_of (chunk_rows c)
  unfolding read_cues_number
  read_refused h = first_refused (chunk_rows c) slots h

  module _ (z : first_of (chunk_rows c) ≡ 0) where
    pub read_room : room < count_of c → read_cues_number c room ≡ 3
    unfolding read_cues_number every
    read_room h = first_then (chunk_rows c) slots (first-zero (chunk_rows c) refl z) ∙ rw (lt-leb (count_of c) room h)

    pub read_none : count_of c ≤ room → read_cues_number c room ≡ 0
    unfolding read_cues_number every
    read_none h = first_then (chunk_rows c) slots (first-zero (chunk_rows c) refl z) ∙ rw (le-leb (count_of c) room h)

  -- what number 0 says
  pub read_told : read_cues_number c room ≡ 0 → (first_of (chunk_rows c) ≡ 0) × (count_of c ≤ room)
  unfolding read_cues_number every
  read_told z =
      let all = first-zero (chunk_rows c ++ slots) refl z in
      let a1 = and_right (chunk_fine c) _ all in
      let a2 = and_right (all_from (λ i. offset_fine (offset_at c i)) 0 (count_of c)) _ a1 in
      let a3 = and_right (ascending 0 (chunk_frames c)) _ a2 in
      let e1 = and_left (chunk_fine c) _ all in
      let e2 = and_left (all_from (λ i. offset_fine (offset_at c i)) 0 (count_of c)) _ a1 in
      let e3 = and_left (ascending 0 (chunk_frames c)) _ a2 in
      (rw (e1, e2, e3), leb-true _ _ (and_left (leb (count_of c) room) _ a3))

-- ---- writing

module _ (frames : List ℕ) (room : ℕ) where
  abbrev bytes : List Row
  bytes = (leb (chunk_length (length frames)) room, too_little_room) ∷ []

  pub write_refused : (first_of (grid_rows frames) ≡ 0 → ⊥) → write_cues_number frames room ≡ first_of (grid_rows frames)
  unfolding write_cues_number
  write_refused h = first_refused (grid_rows frames) bytes h

  module _ (z : first_of (grid_rows frames) ≡ 0) where
    pub write_room : room < chunk_length (length frames) → write_cues_number frames room ≡ 3
    unfolding write_cues_number every
    write_room h = first_then (grid_rows frames) bytes (first-zero (grid_rows frames) refl z) ∙ rw (lt-leb (chunk_length (length frames)) room h)

    pub write_none : chunk_length (length frames) ≤ room → write_cues_number frames room ≡ 0
    unfolding write_cues_number every
    write_none h = first_then (grid_rows frames) bytes (first-zero (grid_rows frames) refl z) ∙ rw (le-leb (chunk_length (length frames)) room h)

  pub write_told : write_cues_number frames room ≡ 0 → Grid frames × (chunk_length (length frames) ≤ room)
  unfolding write_cues_number every
  write_told z =
      let all = first-zero (grid_rows frames ++ bytes) refl z in
      let a1 = and_right (every frame_fine frames) _ all in
      let a2 = and_right (ascending 0 frames) _ a1 in (
        grid_of_lem frames (and_left (every frame_fine frames) _ all) (and_left (ascending 0 frames) _ a1),
        leb-true _ _ (and_left (leb (chunk_length
            (length frames)) room) _ a2),
      )
