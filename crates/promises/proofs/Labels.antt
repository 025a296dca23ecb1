-- Document 02, No. 6: what holds of frames that are written as a label track or as a cue chunk, and of bytes that are read or converted, over the promises
-- of the calls. "Convert either way at a given rate; both round trips give back the same bytes for any list of strictly ascending frames." What a call
-- wrote are the first bytes of what it was lent, as many as it answers. `every byte_fine`, of a chunk that was lent, holds of any list of bytes. Assumes
-- nothing.
use mathlib.Core.List.{List}
use mathlib.Core.Bool.{Bool, true, false}
use mathlib.Core.Logic.{⊎_elim}
use mathlib.Core.Path.{◌≡◌, refl, sym, ap, ◌∙◌}
use Prim.Native.Nat.{ℕ, zero, suc, ◌+◌, ◌*◌, ◌≤◌, ◌<◌}
use native.Mathlib.Omega.{arith}
use lib.ListN.{length, take}
use Rattle.numbers.specs.Limits.{rate_fine, frame_fine, most_frame}
use Rattle.numbers.specs.Lists.{every, listed, ascending}
use Rattle.numbers.specs.Refusals.{unless, first_of}
use Rattle.numbers.specs.Outcomes.{Listing, ListWritten}
use Rattle.numbers.proofs.Tabs.{listed-first}
use Rattle.numbers.proofs.Tests.{passed_does, lt_or_le}
use Rattle.times.specs.Micros.{microseconds}
use Rattle.times.proofs.Times.{rising}
use Rattle.words.specs.Words.{byte_fine}
use Rattle.lists.proofs.Grids.{Grid, grid_of_lem, grid-none}
use Rattle.cue_points.specs.Chunks.{offsets_of, cue_bytes, chunk_length, chunk_frames}
use Rattle.cues.specs.Calls.{WriteCuesPromise, ReadCuesPromise}
use Rattle.cues.proofs.Chunks.{chunk_length_lem, offsets_length}
use Rattle.cues.proofs.Calls as cues
use Rattle.cues.proofs.Frames.{count_is, cue_frames, cue_read, cue_written, cue_grid}
use Rattle.label_times.specs.Frames.{frame_for, time_fine}
use Rattle.label_times.proofs.Frames.{rate_some, rate_most, time_listed, time_is, time_frame}
use Rattle.label_tracks.specs.Tracks.{label_bytes, text_frames, text_times}
use Rattle.label_tracks.proofs.Frames.{label_frames, labels_read, labels_written, text-told, frames_long}
use Rattle.labels.specs.Calls.{frames_rows, WriteLabelsPromise, ReadLabelsPromise}
use Rattle.labels.proofs.Written.{labels_most}
use Rattle.labels.proofs.Calls as labels
use Rattle.label_cues.specs.Calls.{LabelsToCuesPromise, CuesToLabelsPromise}
use Rattle.label_cues.proofs.Calls as conversions

-- ---- what a call listed, where it answers number 0

module _ {number : ℕ} {entries was : List ℕ} {answer : Listing} {after : List ℕ} (p : ListWritten number entries was answer after) where
  was_zero : answer.number ≡ 0 → number ≡ 0
  was_zero n = sym p.number_is ∙ n

  first_are : answer.number ≡ 0 → take answer.count after ≡ entries
  first_are n =
      let z = was_zero n in
      let c : answer.count ≡ length entries = p.count_is ∙ passed_does number (length entries) 0 z in
      let a : after ≡ listed entries was = p.frames_are ∙ passed_does number (listed entries was) was z in
      ap (λ (k : ℕ). take k after) c ∙ ap (take (length entries)) a ∙ listed-first entries was

  -- and of one whose number is known to be 0, with its entries by another name
  answered : {named : List ℕ} → number ≡ 0 → entries ≡ named → (answer.number ≡ 0) × (answer.count ≡ length named) × (after ≡ listed named was)
  answered z e = (
    p.number_is ∙ z,
    p.count_is ∙ passed_does number (length entries) 0 z ∙ ap length e,
    p.frames_are ∙ passed_does number (listed entries was) was z ∙ ap (λ (r : List ℕ). listed r was) e,
  )

-- ---- times

-- two frames never share a microsecond, so a time names at most one frame
pub times_apart : (rate : ℕ) → rate_fine rate ≡ true → (s t : ℕ) → microseconds s rate ≡ microseconds t rate → s ≡ t
times_apart rate good s t e =
    ⊎_elim
    (λ (h : s < t). absurd (omega (arith, rising rate (rate_some rate good) (rate_most rate good) s t h)))
    (λ (h : t ≤ s).
    ⊎_elim
    (λ (k : t < s). absurd (omega (arith, rising rate (rate_some rate good) (rate_most rate good) t s k)))
    (λ (k : s ≤ t). omega arith)
    (lt_or_le t s))
    (lt_or_le s t)

-- number 10 is given exactly where a time is no listed frame's: each of these has a time that passes, and each time that passes is the time of one
pub frame_has_time : (rate : ℕ) → rate_fine rate ≡ true → (t : ℕ) → t ≤ most_frame → time_fine rate (microseconds t rate) ≡ true
frame_has_time rate good = time_listed rate (rate_some rate good) (rate_most rate good)

pub time_has_frame : (rate : ℕ) → rate_fine rate ≡ true → (u : ℕ) → time_fine rate u ≡ true
    → (frame_for u rate ≤ most_frame) × (microseconds (frame_for u rate) rate ≡ u)
time_has_frame rate good u e =
    (time_frame rate (rate_some rate good) (rate_most rate good) u e, time_is rate (rate_some rate good) (rate_most rate good) u e)

-- ---- room

-- 39 bytes a frame are always enough for a label track
pub labels_in_39 : (frames : List ℕ) (rate : ℕ) {before : List ℕ} {w : Listing} {text : List ℕ} → WriteLabelsPromise frames rate before w text
    → 39 * length frames ≤ length before → w.number ≡ 3 → ⊥
labels_in_39 frames rate {before} p room three = go (first_of (frames_rows frames rate)) refl
  where
    not_three : (a b c : Bool) → unless a 1 (unless b 1 (unless c 11 0)) ≡ 3 → ⊥
    not_three true true true e = omega (arith, e)
    not_three true true false e = omega (arith, e)
    not_three true false c e = omega (arith, e)
    not_three false b c e = omega (arith, e)

    go : (k : ℕ) → first_of (frames_rows frames rate) ≡ k → ⊥
    go zero z =
        let told = labels.frames_told frames rate z in
        let most = labels_most rate told.0 frames told.1.listed in
        let none = labels.write_none frames rate (length before) z (omega arith) in
        omega (arith, p.number_is, none, three)
    go (suc k) z =
        let same = labels.write_refused frames rate (length before) (λ (e : first_of (frames_rows frames rate) ≡ 0). omega (arith, e, z)) in
        not_three (rate_fine rate) (every frame_fine frames) (ascending 0 frames) (sym same ∙ sym p.number_is ∙ three)

-- ---- frames to bytes and back: "any list of strictly ascending frames"

-- the frames of a label track, and of a chunk, that was written are the list
pub labels_round_trip : (frames : List ℕ) (rate : ℕ) {before slots : List ℕ} {w r : Listing} {text after : List ℕ}
    → WriteLabelsPromise frames rate before w text → w.number ≡ 0 → ReadLabelsPromise (take w.count text) rate slots r after → length frames ≤ length slots
    → (r.number ≡ 0) × (r.count ≡ length frames) × (after ≡ listed frames slots)
labels_round_trip frames rate {before} {slots} {w} {r} {text} {after} p n q room =
    let t = labels.write_told frames rate (length before) (was_zero p n) in
    let grid = grid_of_lem frames t.1 t.2 in
    let bytes = first_are p n in
    let own = label_frames rate t.0 frames grid in
    let long : length (text_times (label_bytes rate frames)) ≡ length frames = sym (frames_long rate (text_times (label_bytes rate frames))) ∙ ap length own in
    answered (rw bytes at q) (labels.read_none (label_bytes rate frames) rate (length slots) (labels_read rate t.0 frames grid) (omega arith)) own

pub cues_round_trip : (frames : List ℕ) {before slots : List ℕ} {w r : Listing} {chunk after : List ℕ}
    → WriteCuesPromise frames before w chunk → w.number ≡ 0 → ReadCuesPromise (take w.count chunk) slots r after → length frames ≤ length slots
    → (r.number ≡ 0) × (r.count ≡ length frames) × (after ≡ listed frames slots)
cues_round_trip frames {before} {slots} {w} {r} {chunk} {after} p n q room =
    let grid = (cues.write_told frames (length before) (was_zero p n)).0 in
    let bytes = first_are p n in
    let count = count_is frames grid in
    answered (rw bytes at q) (cues.read_none (cue_bytes frames) (length slots) (cue_read frames grid) (omega arith)) (cue_frames frames grid)

-- how many bytes a chunk has
cue_length : (frames : List ℕ) → length (cue_bytes frames) ≡ chunk_length (length frames)
unfolding cue_bytes
cue_length frames = chunk_length_lem (offsets_of frames) ∙ ap chunk_length (offsets_length frames)

-- ---- bytes to frames and back: what is read with number 0 is byte for byte what is written for the frames that were read

module _ (text : List ℕ) (rate : ℕ) {slots : List ℕ} {r : Listing} {after : List ℕ} (p : ReadLabelsPromise text rate slots r after) (n : r.number ≡ 0) where
  -- and the call that writes them gives it back
  pub text_written_again : {before : List ℕ} {w : Listing} {out : List ℕ} → WriteLabelsPromise (take r.count after) rate before w out
      → length text ≤ length before → (w.number ≡ 0) × (w.count ≡ length text) × (out ≡ listed text before)
  text_written_again {before} q room =
      let z = (labels.read_told text rate (length slots) (was_zero p n)).0 in
      let told = text-told rate text z in
      let frames = text_frames rate text in
      let same : text ≡ label_bytes rate frames = labels_written rate text told in
      let long = ap length same in
      let none = labels.frames_none frames rate told.rated told.grid in
      answered (rw (first_are p n) at q) (labels.write_none frames rate (length before) none (omega arith)) (sym same)

  pub read_is_written : label_bytes rate (take r.count after) ≡ text
  read_is_written =
      let z = (labels.read_told text rate (length slots) (was_zero p n)).0 in
      ap (label_bytes rate) (first_are p n) ∙ sym (labels_written rate text (text-told rate text z))

module _ (chunk : List ℕ) {slots : List ℕ} {r : Listing} {after : List ℕ}
    (bytes : every byte_fine chunk ≡ true) (p : ReadCuesPromise chunk slots r after) (n : r.number ≡ 0) where
  -- and the call that writes them gives it back
  pub chunk_written_again : {before : List ℕ} {w : Listing} {out : List ℕ} → WriteCuesPromise (take r.count after) before w out
      → length chunk ≤ length before → (w.number ≡ 0) × (w.count ≡ length chunk) × (out ≡ listed chunk before)
  chunk_written_again {before} q room =
      let z = (cues.read_told chunk (length slots) (was_zero p n)).0 in
      let told = cues.chunk_told chunk z in
      let frames = chunk_frames chunk in
      let same : chunk ≡ cue_bytes frames = cue_written chunk bytes told in
      let long = ap length same ∙ cue_length frames in
      let grid = cue_grid chunk told in
      let none = grid-none frames grid.listed grid.ascend in
      answered (rw (first_are p n) at q) (cues.write_none frames (length before) none (omega arith)) (sym same)

  pub chunk_is_written : cue_bytes (take r.count after) ≡ chunk
  chunk_is_written =
      let z = (cues.read_told chunk (length slots) (was_zero p n)).0 in
      ap cue_bytes (first_are p n) ∙ sym (cue_written chunk bytes (cues.chunk_told chunk z))

-- ---- the conversions

-- the label track of any strictly ascending listed frames becomes their chunk, and their chunk becomes their track, where the room suffices
module _ (frames : List ℕ) (rate : ℕ) (good : rate_fine rate ≡ true) (fine : every frame_fine frames ≡ true) (order : ascending 0 frames ≡ true) where
  pub labels_become_cues : {before : List ℕ} {r : Listing} {after : List ℕ} → LabelsToCuesPromise (label_bytes rate frames) rate before r after
      → chunk_length (length frames) ≤ length before → (r.number ≡ 0) × (r.count ≡ length (cue_bytes frames)) × (after ≡ listed (cue_bytes frames) before)
  labels_become_cues {before} p room =
      let grid = grid_of_lem frames fine order in
      let own = label_frames rate good frames grid in
      let long = ap length own in
      answered p (conversions.labels_none (label_bytes rate frames) rate (length before) (labels_read rate good frames grid) (omega arith)) (ap cue_bytes own)

  pub cues_become_labels : {before : List ℕ} {r : Listing} {after : List ℕ} → CuesToLabelsPromise (cue_bytes frames) rate before r after
      → length (label_bytes rate frames) ≤ length before → (r.number ≡ 0) × (r.count ≡ length (label_bytes rate frames))
      × (after ≡ listed (label_bytes rate frames) before)
  cues_become_labels {before} p room =
      let grid = grid_of_lem frames fine order in
      let own = cue_frames frames grid in
      let long = ap (λ (ts : List ℕ). length (label_bytes rate ts)) own in
      answered p
      (conversions.cues_none (cue_bytes frames) rate (length before) (conversions.rated_chunk (cue_bytes frames) rate good ∙ cue_read frames grid) (omega arith))
      (ap (label_bytes rate) own)

-- "both round trips give back the same bytes": whatever text is converted, and whatever chunk, converted back it is the same, byte for byte
pub labels_cues_labels : (text : List ℕ) (rate : ℕ) {before before' : List ℕ} {r r' : Listing} {chunk after : List ℕ}
    → LabelsToCuesPromise text rate before r chunk → r.number ≡ 0 → CuesToLabelsPromise (take r.count chunk) rate before' r' after
    → length text ≤ length before' → (r'.number ≡ 0) × (r'.count ≡ length text) × (after ≡ listed text before')
labels_cues_labels text rate {before} {before'} {r} {r'} {chunk} {after} p n q room =
    let told = text-told rate text (conversions.labels_told text rate (length before) (was_zero p n)) in
    let grid = told.grid in
    let frames = text_frames rate text in
    let same : text ≡ label_bytes rate frames = labels_written rate text told in
    let long = ap length same in
    let back = cues_become_labels frames rate told.rated grid.listed grid.ascend (rw (first_are p n) at q) (omega arith) in
    (back.0, back.1 ∙ sym long, back.2 ∙ ap (λ (t : List ℕ). listed t before') (sym same))

pub cues_labels_cues : (chunk : List ℕ) (rate : ℕ) {before before' : List ℕ} {r r' : Listing} {text after : List ℕ}
    → every byte_fine chunk ≡ true → CuesToLabelsPromise chunk rate before r text → r.number ≡ 0
    → LabelsToCuesPromise (take r.count text) rate before' r' after
    → length chunk ≤ length before' → (r'.number ≡ 0) × (r'.count ≡ length chunk) × (after ≡ listed chunk before')
cues_labels_cues chunk rate {before} {before'} {r} {r'} {text} {after} bytes p n q room =
    let z = conversions.rated_told chunk rate (conversions.cues_told chunk rate (length before) (was_zero p n)) in
    let told = cues.chunk_told chunk z.1 in
    let grid = cue_grid chunk told in
    let frames = chunk_frames chunk in
    let same : chunk ≡ cue_bytes frames = cue_written chunk bytes told in
    let long = ap length same ∙ cue_length frames in
    let back = labels_become_cues frames rate z.0 grid.listed grid.ascend (rw (first_are p n) at q) (omega arith) in
    (back.0, back.1 ∙ ap length (sym same), back.2 ∙ ap (λ (t : List ℕ). listed t before') (sym same))

-- the same said of any list of frames: written as a label track, or as a chunk, converted and converted back, its bytes are the same
module _ (frames : List ℕ) (rate : ℕ) (good : rate_fine rate ≡ true) (fine : every frame_fine frames ≡ true) (order : ascending 0 frames ≡ true) where
  pub labels_there_and_back : {before before' : List ℕ} {r r' : Listing} {chunk after : List ℕ}
      → LabelsToCuesPromise (label_bytes rate frames) rate before r chunk → chunk_length (length frames) ≤ length before
      → CuesToLabelsPromise (take r.count chunk) rate before' r' after → length (label_bytes rate frames) ≤ length before'
      → (r'.number ≡ 0) × (r'.count ≡ length (label_bytes rate frames)) × (after ≡ listed (label_bytes rate frames) before')
  labels_there_and_back p room q room' =
      labels_cues_labels (label_bytes rate frames) rate p (labels_become_cues frames rate good fine order p room).0 q room'

  pub cues_there_and_back : {before before' : List ℕ} {r r' : Listing} {text after : List ℕ}
      → CuesToLabelsPromise (cue_bytes frames) rate before r text → length (label_bytes rate frames) ≤ length before
      → LabelsToCuesPromise (take r.count text) rate before' r' after → chunk_length (length frames) ≤ length before'
      → (r'.number ≡ 0) × (r'.count ≡ length (cue_bytes frames)) × (after ≡ listed (cue_bytes frames) before')
  cues_there_and_back p room q room' =
      let there = cues_become_labels frames rate good fine order p room in
      let own = cue_frames frames (grid_of_lem frames fine order) in
      labels_become_cues frames rate good fine order (rw (first_are p there.0 ∙ ap (label_bytes rate) own) at q) room'
