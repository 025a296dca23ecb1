-- What the numbers of the writer and the reader tell, and that a file written piece by piece is the file. Assumes nothing.
use mathlib.Core.Path.{◌≡◌, refl, sym, ap, ◌∙◌}
use mathlib.Core.Bool.{Bool, true, false}
use mathlib.Core.List.{List, [], ◌∷◌, ◌++◌, append_assoc}
use Prim.Native.Nat.{ℕ, zero, suc, ◌+◌, ◌-◌, ◌*◌, ◌≤◌, ◌<◌}
use native.Mathlib.Numerals.{add-one}
use native.Mathlib.Omega.{arith}
use lib.Dec.{leb}
use lib.ListN.{length, get_or, take, drop}
use lib.Seq.{take-suc}
use borrow.Author.Tests.{leb-true, le-leb}
use Rattle.numbers.specs.Limits.{most_rate, most_frame, rate_fine, frame_fine}
use Rattle.numbers.specs.Refusals.{Row, unless, first_of}
use Rattle.numbers.specs.Lists.{curve, filled, listed, every, ascending}
use Rattle.numbers.proofs.Ascents.{ascending-count}
use Rattle.numbers.proofs.Everys.{every_by}
use Rattle.numbers.proofs.Firsts.{first_skip, first-among}
use Rattle.numbers.proofs.Tabs.{length-tab, filled-whole}
use Rattle.numbers.proofs.Tests.{and_left, and_right, unless-zero}
use Rattle.midi_gaps.specs.Gaps.{time_at, gap_at, gaps_of, tempo_track_numbers_fine, is_grid, gaps_fit}
use Rattle.midi_gaps.proofs.Gaps.{gaps-length, gap_in_list, gap_least, gap_joins}
use Rattle.midi_events.specs.File.{track_front, tempo_events, track_end, track_events, file_of}
use Rattle.midi_events.specs.Shapes.{track_room, count_in, gap_in, gaps_in, tempo_some, shaped}
use Rattle.midi_events.proofs.Events.{track-length}
use Rattle.midi_events.proofs.Shapes.{shaped-count, shaped-back}
use Rattle.midi.specs.Tracks.{write_refusal, read_refusal, total}

-- ---- the writer's rows

module _ (rate : ℕ) (beats : List ℕ) where
  rate_low : tempo_track_numbers_fine rate beats ≡ true → 0 < rate
  unfolding tempo_track_numbers_fine
  rate_low e = leb-true 1 rate (and_left _ (leb rate most_rate) (and_left (rate_fine rate) _ e))

  rate_high : tempo_track_numbers_fine rate beats ≡ true → rate ≤ most_rate
  unfolding tempo_track_numbers_fine
  rate_high e = leb-true rate most_rate (and_right (leb 1 rate) _ (and_left (rate_fine rate) _ e))

  frames_fine : tempo_track_numbers_fine rate beats ≡ true → every frame_fine beats ≡ true
  unfolding tempo_track_numbers_fine
  frames_fine e = and_right (rate_fine rate) _ e

  two : is_grid beats ≡ true → 2 ≤ length beats
  unfolding is_grid
  two e = leb-true 2 (length beats) (and_left (leb 2 (length beats)) _ e)

  rises : is_grid beats ≡ true → ascending 0 beats ≡ true
  unfolding is_grid
  rises e = and_right (leb 2 (length beats)) _ e

  -- the row of 8 holds wherever those of 1 and 6 do: two frames lie 1,333 microseconds apart or more
  pub never_zero : tempo_track_numbers_fine rate beats ≡ true → is_grid beats ≡ true → every tempo_some (gaps_of rate beats) ≡ true
  never_zero b g =
      every_by tempo_some (gaps_of rate beats) 0
      (λ i h.
      let k : i < length beats - 1 = omega (arith, gaps-length rate beats) in
      let m = gap_least rate (rate_low b) (rate_high b) beats (rises g) i (omega arith) in
      le-leb 1 (get_or (gaps_of rate beats) i 0) (omega (arith, gap_in_list rate beats i k)))

  -- the rows that the code tests before it looks at the room: 1, 6, 7
  abbrev pub track_rows : List Row
  track_rows = (tempo_track_numbers_fine rate beats, 1) ∷ (is_grid beats, 6) ∷ (gaps_fit rate beats, 7) ∷ []

  module _ (room : ℕ) where
    -- 8 can be left out
    pub tested_rows : write_refusal beats rate room ≡ first_of (track_rows ++ ((leb (track_room (length beats - 1)) room, 3) ∷ []))
    unfolding write_refusal every
    tested_rows =
        first_skip track_rows (every tempo_some (gaps_of rate beats)) 8 ((leb (track_room (length beats - 1)) room, 3) ∷ [])
        (λ e. never_zero (and_left (tempo_track_numbers_fine rate beats) _ e) (and_left (is_grid beats) _ (and_right (tempo_track_numbers_fine rate beats) _ e)))

    -- so it is never given
    pub never_eight : write_refusal beats rate room ≡ 8 → ⊥
    unfolding every
    never_eight e = first-among (track_rows ++ ((leb (track_room (length beats - 1)) room, 3) ∷ [])) 8 refl (omega arith) (sym tested_rows ∙ e)

-- the number of the grid is the writer's where it refuses, and else the room decides
module _ (a b c d : Bool) where
  pub grid-refuses : (unless a 1 (unless b 6 (unless c 7 0)) ≡ 0 → ⊥)
      → unless a 1 (unless b 6 (unless c 7 0)) ≡ unless a 1 (unless b 6 (unless c 7 (unless d 3 0)))
  grid-refuses h = go a b c h
    where
      go : (a b c : Bool) → (unless a 1 (unless b 6 (unless c 7 0)) ≡ 0 → ⊥)
          → unless a 1 (unless b 6 (unless c 7 0)) ≡ unless a 1 (unless b 6 (unless c 7 (unless d 3 0)))
      go true true true h = absurd (h refl)
      go true true false h = refl
      go true false c h = refl
      go false b c h = refl

  pub grid_passes : unless a 1 (unless b 6 (unless c 7 0)) ≡ 0 → unless d 3 0 ≡ unless a 1 (unless b 6 (unless c 7 (unless d 3 0)))
  grid_passes h = go a b c h
    where
      go : (a b c : Bool) → unless a 1 (unless b 6 (unless c 7 0)) ≡ 0 → unless d 3 0 ≡ unless a 1 (unless b 6 (unless c 7 (unless d 3 0)))
      go true true true h = refl
      go true true false h = absurd (omega arith)
      go true false c h = absurd (omega arith)
      go false b c h = absurd (omega arith)

-- what number 0 of the writer tells
pub record Ready (beats : List ℕ) (rate room : ℕ) : Type 0 where
  pub bounds : tempo_track_numbers_fine rate beats ≡ true
  pub grid : is_grid beats ≡ true
  pub fits : gaps_fit rate beats ≡ true
  pub rate_some : 0 < rate
  pub rate_most : rate ≤ most_rate
  pub two-beats : 2 ≤ length beats
  pub few-beats : length beats ≤ most_frame + 1
  pub ascends : ascending 0 beats ≡ true
  pub enough : track_room (length beats - 1) ≤ room

pub write_told : (beats : List ℕ) (rate room : ℕ) → write_refusal beats rate room ≡ 0 → Ready beats rate room
write_told beats rate room e =
    let p = unless-zero (tempo_track_numbers_fine rate beats) 0 _ (sym (tested_rows rate beats room) ∙ e) in
    let q = unless-zero (is_grid beats) 5 _ p.1 in
    let r = unless-zero (gaps_fit rate beats) 6 _ q.1 in
    let s = unless-zero (leb (track_room (length beats - 1)) room) 2 0 r.1 in
    record {
      bounds = p.0;
      grid = q.0;
      fits = r.0;
      rate_some = rate_low rate beats p.0;
      rate_most = rate_high rate beats p.0;
      two-beats = two rate beats q.0;
      few-beats = omega (arith, ascending-count 0 most_frame beats (omega arith) (rises rate beats q.0) (frames_fine rate beats p.0));
      ascends = rises rate beats q.0;
      enough = leb-true (track_room (length beats - 1)) room s.0;
    }

-- what the number of the grid alone tells, where it is 0
pub grid-told : (beats : List ℕ) (rate : ℕ) → first_of (track_rows rate beats) ≡ 0 → (2 ≤ length beats) × (length beats ≤ most_frame + 1)
grid-told beats rate e =
    let p = unless-zero (tempo_track_numbers_fine rate beats) 0 _ e in
    let q = unless-zero (is_grid beats) 5 _ p.1 in (
      two rate beats q.0,
      omega (arith, ascending-count 0 most_frame beats (omega arith) (rises rate beats q.0) (frames_fine rate beats p.0)),
    )

-- ---- the file, piece by piece

pub track_pieces : (gaps : List ℕ) (n : ℕ) → n ≡ length gaps → (track_front (n * 7 + 4) ++ tempo_events 0 gaps) ++ track_end ≡ file_of gaps
unfolding file_of track_events
track_pieces gaps n e =
    let size : n * 7 + 4 ≡ length (track_events gaps) = omega (arith, track-length gaps) in
    append_assoc (track_front (n * 7 + 4)) (tempo_events 0 gaps) track_end ∙ ap (λ (k : ℕ). track_front k ++ track_events gaps) size

-- an accepted grid's file has the shape
pub grid-shaped : (beats : List ℕ) (rate room : ℕ) → Ready beats rate room → shaped (file_of (gaps_of rate beats)) ≡ true
grid-shaped beats rate room ready =
    let l = gaps-length rate beats in
    shaped-back (gaps_of rate beats) (omega (arith, ready.two-beats)) (omega (arith, ready.few-beats)) (never_zero rate beats ready.bounds ready.grid)

-- ---- the reader

pub read_told : (file : List ℕ) (room : ℕ) → read_refusal file room ≡ 0 → (shaped file ≡ true) × (length file ≡ track_room (count_in file)) × (count_in file ≤ room)
unfolding read_refusal
read_told file room e =
    let p = unless-zero (shaped file) 7 _ e in
    let q = unless-zero (leb (count_in file) room) 2 0 p.1 in
    (p.0, shaped-count file p.0, leb-true (count_in file) room q.0)

pub read_fine : (file : List ℕ) (room : ℕ) → shaped file ≡ true → count_in file ≤ room → read_refusal file room ≡ 0
unfolding read_refusal
read_fine file room e h = rw (e, le-leb (count_in file) room h)

-- slots filled by the rule are the gaps, listed
pub gaps-filled : (file before : List ℕ) → filled (gap_in file) before 0 (count_in file) ≡ listed (gaps_in file) before
unfolding gaps_in listed
gaps-filled file before =
    filled-whole (gap_in file) before (count_in file)
    ∙ ap (λ (n : ℕ). curve (gap_in file) (count_in file) ++ drop n before) (sym (length-tab (gap_in file) 0 (count_in file)))

-- ---- "so errors never add up"

total_snoc : (xs : List ℕ) (x : ℕ) → total (xs ++ (x ∷ [])) ≡ total xs + x
unfolding total
total_snoc [] x = omega arith
total_snoc (y ∷ xs) x = let e = total_snoc xs x in omega arith

module _ (rate : ℕ) (h : 0 < rate) (k : rate ≤ 192000) (beats : List ℕ) (up : ascending 0 beats ≡ true) where
  -- the time of beat 0 and the first i gaps make the time of beat i
  pub gaps-reach : (i : ℕ) → i < length beats → time_at rate beats 0 + total (take i (gaps_of rate beats)) ≡ time_at rate beats i
  unfolding total
  gaps-reach zero l = omega arith
  gaps-reach (suc i) l =
      let gs = gaps_of rate beats in
      let n : i < length gs = omega (arith, gaps-length rate beats) in
      let r = gaps-reach i (omega arith) in
      let s : total (take (suc i) gs) ≡ total (take i gs) + get_or gs i 0 = ap total (take-suc gs i 0 n) ∙ total_snoc (take i gs) (get_or gs i 0) in
      let g = gap_in_list rate beats i (omega arith) in
      let j : time_at rate beats i + gap_at rate beats i ≡ time_at rate beats (i + 1) = gap_joins rate h k beats up i (omega arith) in
      let t : time_at rate beats (i + 1) ≡ time_at rate beats (suc i) = ap (time_at rate beats) (add-one i) in
      omega arith
