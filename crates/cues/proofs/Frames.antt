-- What is read is exactly what is written: `cue_read`, `cue_written`. Assumes nothing.
use mathlib.Core.Path.{◌≡◌, refl, sym, ap, ◌∙◌}
use mathlib.Core.Bool.{true}
use mathlib.Core.List.{List, [], ◌∷◌}
use Prim.Native.Nat.{ℕ, zero, suc, ◌+◌, ◌*◌, ◌/◌, ◌%◌, ◌≤◌, ◌<◌}
use native.Mathlib.Omega.{arith}
use lib.Dec.{leb, eqb}
use lib.ListN.{length, get_or}
use borrow.Author.Tests.{eq-eqb, eqb-true, le-leb, leb-true, lt-ltb}
use Rattle.numbers.specs.Limits.{most_frame, frame_fine}
use Rattle.numbers.specs.Lists.{every, tab, curve, ascending}
use Rattle.numbers.specs.Refusals.{first_of}
use Rattle.numbers.proofs.Tests.{and_left, and_right, and_both}
use Rattle.numbers.proofs.Tabs.{tab_ext, curve_of_lem}
use Rattle.numbers.proofs.Everys.{every-at}
use Rattle.times.specs.Micros.{sample_of}
use Rattle.words.specs.Words.{byte_fine, word_fine}
use Rattle.lists.proofs.Grids.{Grid, grid_of_lem}
use Rattle.cue_points.specs.Chunks.{offsets_of, chunk_of, cue_bytes, count_of, all_from, chunk_fine, offset_at, offset_fine, offset_frame, point_frame, chunk_frames}
use Rattle.cues.specs.Calls.{chunk_rows}
use Rattle.cues.proofs.Runs.{all-at, all_of}
use Rattle.cues.proofs.Chunks.{offsets_length, count_own, point_own, chunk_fine_lem, chunk_exact}
use Rattle.cues.proofs.Calls.{Readable}

offset_back : (t : ℕ) → offset_frame (sample_of t) ≡ t
offset_back t = omega arith

offset_there : (o : ℕ) → offset_fine o ≡ true → sample_of (offset_frame o) ≡ o
offset_there o e =
    let a = leb-true 512 o (and_left (leb 512 o) _ e) in
    let b : o % 256 ≡ 0 = eqb-true (o % 256) 0 (and_left (eqb (o % 256) 0) _ (and_right (leb 512 o) _ e)) in
    let q : o ≡ o / 256 * 256 = omega arith in
    omega arith

offset_listed : (t : ℕ) → frame_fine t ≡ true → offset_fine (sample_of t) ≡ true
offset_listed t e =
    let h = leb-true t most_frame e in
    let z : sample_of t % 256 ≡ 0 = omega arith in
    and_both (leb 512 (sample_of t)) _ (le-leb 512 (sample_of t) (omega arith))
    (and_both (eqb (sample_of t % 256) 0) _ (eq-eqb (sample_of t % 256) 0 z) (le-leb (sample_of t) (sample_of most_frame) (omega arith)))

offsets_at : (ts : List ℕ) (i : ℕ) → i < length ts → get_or (offsets_of ts) i 0 ≡ sample_of (get_or ts i 0)
unfolding offsets_of
offsets_at [] i h = absurd (omega arith)
offsets_at (t ∷ ts) zero h = refl
offsets_at (t ∷ ts) (suc i) h = offsets_at ts i (omega arith)

offsets_words : (ts : List ℕ) → every frame_fine ts ≡ true → every word_fine (offsets_of ts) ≡ true
unfolding every offsets_of
offsets_words [] e = refl
offsets_words (t ∷ ts) e =
    let h = leb-true t most_frame (and_left (frame_fine t) _ e) in
    and_both (word_fine (sample_of t)) _ (lt-ltb (sample_of t) 4294967296 (omega arith)) (offsets_words ts (and_right (frame_fine t) _ e))

offsets_map : (f : ℕ → ℕ) (s n : ℕ) → ((i : ℕ) → s ≤ i → i < s + n → offset_fine (f i) ≡ true) → offsets_of (tab (λ i. offset_frame (f i)) s n) ≡ tab f s n
unfolding offsets_of
offsets_map f s zero h = refl
offsets_map f s (suc n) h =
    ap (λ (o : ℕ). o ∷ offsets_of (tab (λ i. offset_frame (f i)) (suc s) n)) (offset_there (f s) (h s (omega arith) (omega arith)))
    ∙ ap (λ (r : List ℕ). f s ∷ r) (offsets_map f (suc s) n (λ i a b. h i (omega arith) (omega arith)))

frame_listed : (o : ℕ) → offset_fine o ≡ true → frame_fine (offset_frame o) ≡ true
frame_listed o e =
    let most = leb-true o (sample_of most_frame) (and_right (eqb (o % 256) 0) _ (and_right (leb 512 o) _ e)) in
    le-leb (offset_frame o) most_frame (omega arith)

frames_fine : (f : ℕ → ℕ) (s n : ℕ) → ((i : ℕ) → s ≤ i → i < s + n → offset_fine (f i) ≡ true) → every frame_fine (tab (λ i. offset_frame (f i)) s n) ≡ true
unfolding every
frames_fine f s zero h = refl
frames_fine f s (suc n) h =
    and_both (frame_fine (offset_frame (f s))) _ (frame_listed (f s) (h s (omega arith) (omega arith)))
    (frames_fine f (suc s) n (λ i a b. h i (omega arith) (omega arith)))

-- Frames to a chunk and back: the chunk of any strictly ascending listed frames is read as they, and nothing refuses it but too little room.
module _ (ts : List ℕ) (grid : Grid ts) where
  few_frames : length (offsets_of ts) < 100000000
  few_frames = omega (arith, offsets_length ts, grid.few)

  words_of : every word_fine (offsets_of ts) ≡ true
  words_of = offsets_words ts grid.listed

  pub count_is : count_of (cue_bytes ts) ≡ length ts
  unfolding cue_bytes
  count_is = count_own (offsets_of ts) few_frames words_of ∙ offsets_length ts

  offset_is : (i : ℕ) → i < length ts → offset_at (cue_bytes ts) i ≡ sample_of (get_or ts i 0)
  unfolding cue_bytes
  offset_is i h = (point_own (offsets_of ts) few_frames words_of i (omega (arith, offsets_length ts))).offset ∙ offsets_at ts i h

  pub cue_frames : chunk_frames (cue_bytes ts) ≡ ts
  unfolding chunk_frames
  cue_frames =
      ap (curve (point_frame (cue_bytes ts))) count_is
      ∙ tab_ext (point_frame (cue_bytes ts)) (λ i. get_or ts i 0) 0 (length ts) (λ i h k. ap offset_frame (offset_is i (omega arith)) ∙ offset_back (get_or ts i 0))
      ∙ curve_of_lem ts 0

  pub cue_read : first_of (chunk_rows (cue_bytes ts)) ≡ 0
  unfolding cue_bytes
  cue_read =
      let fine : chunk_fine (cue_bytes ts) ≡ true = chunk_fine_lem (offsets_of ts) few_frames words_of in
      let offs : all_from (λ i. offset_fine (offset_at (cue_bytes ts) i)) 0 (count_of (cue_bytes ts)) ≡ true
      = all_of (λ i. offset_fine (offset_at (cue_bytes ts) i)) (count_of (cue_bytes ts)) 0 (λ i h k.
      let j : i < length ts = omega (arith, count_is) in
      ap offset_fine (offset_is i j) ∙ offset_listed (get_or ts i 0) (every-at frame_fine ts i 0 grid.listed j)) in
      let up : ascending 0 (chunk_frames (cue_bytes ts)) ≡ true = ap (ascending 0) cue_frames ∙ grid.ascend in
      rw (fine, offs, up)

-- A chunk to frames and back: bytes that nothing refuses are the chunk of the frames that are read.
pub cue_written : (c : List ℕ) → every byte_fine c ≡ true → Readable c → c ≡ cue_bytes (chunk_frames c)
unfolding cue_bytes chunk_frames
cue_written c bytes r =
    chunk_exact c bytes r.fine
    ∙ ap chunk_of (sym (offsets_map (offset_at c) 0 (count_of c) (λ i h k. all-at (λ i. offset_fine (offset_at c i)) (count_of c) 0 i r.offsets (omega arith)
    (omega arith))))

-- the frames that are read are a grid
pub cue_grid : (c : List ℕ) → Readable c → Grid (chunk_frames c)
unfolding chunk_frames
cue_grid c r =
    grid_of_lem (chunk_frames c) (frames_fine (offset_at c) 0 (count_of c) (λ i h k. all-at (λ i. offset_fine (offset_at c i)) (count_of c) 0 i r.offsets
    (omega arith) (omega arith))) r.ascend
