-- Document 02, No. 3: what holds of a grid that is written as a tempo track, and of a file that is read as one, over the promises of the two calls.
-- "A beat's time is rounded half up to whole microseconds and each tempo is the difference of two such times, so errors never add up. k beats take
-- 26 + 7·(k-1) bytes. Add the reader too: it takes exactly this shape, with one gap at least, and gives back the microsecond gaps, and reading what
-- was written returns them." Assumes nothing.
use mathlib.Core.List.{List}
use mathlib.Core.Bool.{true}
use mathlib.Core.Path.{◌≡◌, refl, sym, ap, ◌∙◌}
use Prim.Native.Nat.{ℕ, ◌+◌, ◌-◌, ◌*◌, ◌≤◌, ◌<◌}
use native.Mathlib.Omega.{arith}
use lib.ListN.{length, take}
use Rattle.numbers.specs.Lists.{listed, every}
use Rattle.numbers.specs.Outcomes.{Listing}
use Rattle.numbers.proofs.Tabs.{listed-first}
use Rattle.numbers.proofs.Tests.{passed_does}
use Rattle.midi_gaps.specs.Gaps.{time_at, gaps_of}
use Rattle.midi_gaps.proofs.Gaps.{gaps-length}
use Rattle.midi_events.specs.File.{file_of}
use Rattle.midi_events.specs.Shapes.{gaps_in, tempo_some, shaped}
use Rattle.midi_events.proofs.Events.{file_length}
use Rattle.midi_events.proofs.Shapes.{count-back, gaps-back, shaped-back, shaped_file}
use Rattle.midi.specs.Tracks.{total, write_refusal, read_refusal, TempoTrackPromise, TempoGapsPromise}
use Rattle.midi.proofs.Tracks.{write_told, read_told, read_fine, grid-shaped, gaps-reach}
use Rattle.midi.proofs.Tracks as tracks

-- ---- a file, read

module _ (gaps slots : List ℕ) {answer : Listing} {after : List ℕ} where
  shaped_read : (file : List ℕ) → file ≡ file_of gaps → shaped (file_of gaps) ≡ true → length gaps ≤ length slots → TempoGapsPromise file slots answer after
      → (answer.number ≡ 0) × (answer.count ≡ length gaps) × (after ≡ listed gaps slots)
  shaped_read file f e room p =
      let g : gaps_in file ≡ gaps = ap gaps_in f ∙ gaps-back gaps in
      let z : read_refusal file (length slots) ≡ 0 =
      ap (λ (x : List ℕ). read_refusal x (length slots)) f ∙ read_fine (file_of gaps) (length slots) e (omega (arith, count-back gaps)) in (
        p.number_is ∙ z,
        p.count_is ∙ passed_does _ _ 0 z ∙ ap length g,
        p.frames_are ∙ passed_does _ _ slots z ∙ ap (λ (x : List ℕ). listed x slots) g,
      )

  -- the file of any gaps, of one at least and none of them 0, is accepted and its gaps are listed; a track's length has 32 bits
  pub read_of_file : 1 ≤ length gaps → length gaps * 7 + 4 < 4294967296 → every tempo_some gaps ≡ true → length gaps ≤ length slots
      → TempoGapsPromise (file_of gaps) slots answer after
      → (answer.number ≡ 0) × (answer.count ≡ length gaps) × (after ≡ listed gaps slots)
  read_of_file some fits nonzero = shaped_read (file_of gaps) refl (shaped-back gaps some fits nonzero)

-- "it takes exactly this shape": a file that is accepted is the file of the gaps that were listed, and nothing else
pub written_of_read : (file slots : List ℕ) {answer : Listing} {after : List ℕ} → TempoGapsPromise file slots answer after → answer.number ≡ 0
    → file_of (take answer.count after) ≡ file
written_of_read file slots {answer} {after} p n =
    let z : read_refusal file (length slots) ≡ 0 = sym p.number_is ∙ n in
    let gs = gaps_in file in
    let c : answer.count ≡ length gs = p.count_is ∙ passed_does _ _ 0 z in
    let a : after ≡ listed gs slots = p.frames_are ∙ passed_does _ _ slots z in
    ap file_of (ap (λ (k : ℕ). take k after) c ∙ ap (take (length gs)) a ∙ listed-first gs slots) ∙ shaped_file file (read_told file (length slots) z).0

-- ---- a grid, written

module _ (beats : List ℕ) (rate : ℕ) (was : List ℕ) {answer : Listing} {after : List ℕ} (p : TempoTrackPromise beats rate was answer after) where
  -- 8 can't arise: two frames lie 1,333 microseconds apart or more
  pub never_eight : answer.number ≡ 8 → ⊥
  never_eight e = tracks.never_eight rate beats (length was) (sym p.number_is ∙ e)

  module _ (n : answer.number ≡ 0) where
    answered : write_refusal beats rate (length was) ≡ 0
    answered = sym p.number_is ∙ n

    counted : answer.count ≡ length (file_of (gaps_of rate beats))
    counted = p.count_is ∙ passed_does _ _ 0 answered

    -- "k beats take 26 + 7·(k-1) bytes"
    pub size_is : answer.count ≡ 26 + 7 * (length beats - 1)
    size_is = omega (arith, counted, file_length (gaps_of rate beats), gaps-length rate beats)

    -- the bytes that were written
    pub bytes_are : take answer.count after ≡ file_of (gaps_of rate beats)
    bytes_are =
        let f = file_of (gaps_of rate beats) in
        let a : after ≡ listed f was = p.frames_are ∙ passed_does _ _ was answered in
        ap (λ (k : ℕ). take k after) counted ∙ ap (take (length f)) a ∙ listed-first f was

    -- "so errors never add up": the first i gaps together are the rounded time of beat i less that of beat 0
    pub gaps_telescope : (i : ℕ) → i < length beats → total (take i (gaps_of rate beats)) ≡ time_at rate beats i - time_at rate beats 0
    gaps_telescope i l =
        let r = write_told beats rate (length was) answered in
        omega (arith, gaps-reach rate r.rate_some r.rate_most beats r.ascends i l)

    -- "reading what was written returns them": the bytes that were written, read with a slot for each gap
    pub read_of_written : (slots : List ℕ) {told : Listing} {slots' : List ℕ} → TempoGapsPromise (take answer.count after) slots told slots'
        → length beats - 1 ≤ length slots
        → (told.number ≡ 0) × (told.count ≡ length beats - 1) × (slots' ≡ listed (gaps_of rate beats) slots)
    read_of_written slots q room =
        let l = gaps-length rate beats in
        let e = grid-shaped beats rate (length was) (write_told beats rate (length was) answered) in
        let r = shaped_read (gaps_of rate beats) slots (take answer.count after) bytes_are e (omega arith) q in
        (r.0, r.1 ∙ l, r.2)
