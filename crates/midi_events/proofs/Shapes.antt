-- How a reader goes along a file of tempos, and what its shape comes to, piece by piece. Assumes nothing.
use mathlib.Core.Path.{◌≡◌, refl, sym, ap, ◌∙◌}
use mathlib.Core.Bool.{Bool, true, false, ◌&&◌}
use mathlib.Core.List.{List, [], ◌∷◌, ◌++◌}
use Prim.Native.Nat.{ℕ, zero, suc, ◌+◌, ◌-◌, ◌*◌, ◌/◌, ◌%◌, ◌≤◌, ◌<◌}
use native.Mathlib.Omega.{arith}
use lib.Dec.{eqb, leb, ltb}
use lib.ListN.{length, get_or, drop, length-append, get_or-append, drop_of_length-le}
use lib.Seq.{drop-drop, get_or-append-add, ext_get_or}
use borrow.Author.Tests.{eqb-true, eq-eqb, ne_eqb, leb-true, le-leb, lt-leb, lt-ltb, le-ltb}
use Rattle.numbers.specs.Lists.{every}
use Rattle.numbers.proofs.Everys.{every_step}
use Rattle.numbers.proofs.Tests.{and_left, and_right, and_both, and-false, and-true}
use Rattle.numbers.proofs.Tabs.{length-tab, get_or-curve}
use Rattle.texts.specs.Texts.{starts, exactly}
use Rattle.texts.proofs.Texts.{starts-append, exactly-is, exactly_own}
use Rattle.midi_events.specs.File.{track_front, in_three_bytes, delta_of, tempo_event, track_end, tempo_events, track_events, file_of}
use Rattle.midi_events.specs.Shapes.{track_room, count_in, tempo_from, gap_in, gaps_in, tempo_some, shaped}
use Rattle.midi_events.proofs.Events.{track-length, file_length, events_step, file_pieces}

pub count_in_lem : (file : List ℕ) → length (gaps_in file) ≡ count_in file
unfolding gaps_in
count_in_lem file = length-tab (gap_in file) 0 (count_in file)

pub gap_at_lem : (file : List ℕ) (i : ℕ) → i < count_in file → get_or (gaps_in file) i 0 ≡ gap_in file i
unfolding gaps_in
gap_at_lem file i h = get_or-curve (gap_in file) (count_in file) i 0 h

-- ---- the events of a file, from event i on

module _ (file : List ℕ) where
  -- those that are left stand in the file, and none tells 0
  abbrev pub fine_from : (i : ℕ) → Bool
  fine_from i = starts (tempo_events i (drop i (gaps_in file))) (drop (22 + i * 7) file) && every tempo_some (drop i (gaps_in file))

  pub fine_end : (i : ℕ) → count_in file ≤ i → fine_from i ≡ true
  unfolding tempo_events starts every
  fine_end i h = let e : drop i (gaps_in file) ≡ [] = drop_of_length-le (gaps_in file) {i = i} (omega (arith, count_in_lem file)) in rw e

  module _ (i : ℕ) (h : i < count_in file) where
    split : fine_from i
        ≡ ((starts (tempo_event (delta_of i) (gap_in file i)) (drop (22 + i * 7) file)
        && starts (tempo_events (i + 1) (drop (i + 1) (gaps_in file))) (drop (22 + (i + 1) * 7) file))
        && (tempo_some (gap_in file i) && every tempo_some (drop (i + 1) (gaps_in file))))
    split =
        let gs = gaps_in file in
        let l : i < length gs = omega (arith, count_in_lem file) in
        let text = drop (22 + i * 7) file in
        let rest = tempo_events (i + 1) (drop (i + 1) gs) in
        let k : 22 + i * 7 + 7 ≡ 22 + (i + 1) * 7 = omega arith in
        ap (λ (r : List ℕ). starts r text && every tempo_some (drop i gs)) (events_step gs i l)
        ∙ ap (λ (t : Bool). starts (tempo_event (delta_of i) (get_or gs i 0) ++ rest) text && t) (every_step tempo_some gs i 0 l)
        ∙ ap (λ (g : ℕ). starts (tempo_event (delta_of i) g ++ rest) text && (tempo_some g && every tempo_some (drop (i + 1) gs))) (gap_at_lem file i h)
        ∙ ap (λ (t : Bool). t && (tempo_some (gap_in file i) && every tempo_some (drop (i + 1) gs)))
        (starts-append (tempo_event (delta_of i) (gap_in file i)) rest text
        ∙ ap (λ (r : List ℕ). starts (tempo_event (delta_of i) (gap_in file i)) text && starts rest r)
        (drop-drop 7 (22 + i * 7) file ∙ ap (λ (n : ℕ). drop n file) k))

    pub fine-zero : gap_in file i < 1 → fine_from i ≡ false
    fine-zero e =
        let a = starts (tempo_event (delta_of i) (gap_in file i)) (drop (22 + i * 7) file)
        && starts (tempo_events (i + 1) (drop (i + 1) (gaps_in file))) (drop (22 + (i + 1) * 7) file) in
        split ∙ ap (λ (t : Bool). a && (t && every tempo_some (drop (i + 1) (gaps_in file)))) (lt-leb 1 (gap_in file i) e) ∙ and-false a

    pub fine_other : starts (tempo_event (delta_of i) (gap_in file i)) (drop (22 + i * 7) file) ≡ false → fine_from i ≡ false
    fine_other e =
        split
        ∙ ap (λ (t : Bool). (t && starts (tempo_events (i + 1) (drop (i + 1) (gaps_in file))) (drop (22 + (i + 1) * 7) file))
        && (tempo_some (gap_in file i) && every tempo_some (drop (i + 1) (gaps_in file)))) e

    pub fine_step : 1 ≤ gap_in file i → starts (tempo_event (delta_of i) (gap_in file i)) (drop (22 + i * 7) file) ≡ true → fine_from i ≡ fine_from (i + 1)
    fine_step n e =
        let s = starts (tempo_events (i + 1) (drop (i + 1) (gaps_in file))) (drop (22 + (i + 1) * 7) file) in
        let r = every tempo_some (drop (i + 1) (gaps_in file)) in
        split ∙ ap (λ (t : Bool). (t && s) && (tempo_some (gap_in file i) && r)) e ∙ ap (λ (t : Bool). s && (t && r)) (le-leb 1 (gap_in file i) n)

-- ---- the whole shape

and_comm : (a b : Bool) → (a && b) ≡ (b && a)
and_comm true b = and-true b
and_comm false b = sym (and-false b)

turn : (a b c : Bool) → ((a && b) && c) ≡ ((a && c) && b)
turn true b c = and_comm b c
turn false b c = refl

module _ (file : List ℕ) where
  -- the pieces in the order in which the code looks at them
  abbrev pub pieces : (count : ℕ) → Bool
  pieces count =
      leb 1 count
      && (ltb (count * 7 + 4) 4294967296
      && ((eqb (length file) (track_room count)
      && (starts (track_front (count * 7 + 4)) file && (starts (tempo_events 0 (gaps_in file)) (drop 22 file) && starts track_end (drop (22 + count * 7) file))))
      && every tempo_some (gaps_in file)))

  pub shaped_pieces : shaped file ≡ pieces (count_in file)
  unfolding shaped exactly
  shaped_pieces =
      let gs = gaps_in file in
      let n = count_in file in
      let l : length gs ≡ n = count_in_lem file in
      let t : length (track_events gs) ≡ n * 7 + 4 = track-length gs ∙ ap (λ (n : ℕ). n * 7 + 4) l in
      let f : length (file_of gs) ≡ track_room n = file_length gs ∙ ap track_room l in
      let s = file_pieces gs file
      ∙ ap (λ (n : ℕ). starts (track_front (n * 7 + 4)) file && (starts (tempo_events 0 gs) (drop 22 file) && starts track_end (drop (22 + n * 7) file))) l in
      ap (λ (n : ℕ). leb 1 n && (ltb (length (track_events gs)) 4294967296 && (exactly (file_of gs) file && every tempo_some gs))) l
      ∙ ap (λ (m : ℕ). leb 1 n && (ltb m 4294967296 && (exactly (file_of gs) file && every tempo_some gs))) t
      ∙ ap (λ (m : ℕ). leb 1 n && (ltb (n * 7 + 4) 4294967296 && ((eqb (length file) m && starts (file_of gs) file) && every tempo_some gs))) f
      ∙ ap (λ (b : Bool). leb 1 n && (ltb (n * 7 + 4) 4294967296 && ((eqb (length file) (track_room n) && b) && every tempo_some gs))) s

-- ---- the tests of a reader, in turn

module _ (file : List ℕ) where
  pub too_short : length file < 33 → false ≡ shaped file
  too_short h =
      let k : count_in file < 1 = omega arith in
      sym (shaped_pieces file ∙ rw (lt-leb 1 (count_in file) k))

  module _ (h1 : 33 ≤ length file) where
    one : 1 ≤ count_in file
    one = omega arith

    pub left_over : 0 < (length file - 26) % 7 → false ≡ shaped file
    left_over h =
        let b = ltb (count_in file * 7 + 4) 4294967296 in
        let n : length file ≡ track_room (count_in file) → ⊥ = λ e. omega arith in
        sym (shaped_pieces file ∙ rw (le-leb 1 (count_in file) one, ne_eqb (length file) (track_room (count_in file)) n) (and-false b))

    module _ (h2 : length file ≡ track_room (count_in file)) where
      pub too_long : 613566755 < count_in file → false ≡ shaped file
      too_long h = sym (shaped_pieces file ∙ rw (le-leb 1 (count_in file) one, le-ltb (count_in file * 7 + 4) 4294967296 (omega arith)))

      module _ (h3 : count_in file ≤ 613566755) where
        -- what is left once the numbers are fine
        rest : shaped file
            ≡ ((starts (track_front (count_in file * 7 + 4)) file
            && (starts (tempo_events 0 (gaps_in file)) (drop 22 file) && starts track_end (drop (22 + count_in file * 7) file)))
            && every tempo_some (gaps_in file))
        rest =
            shaped_pieces file
            ∙ rw (
              le-leb 1 (count_in file) one,
              lt-ltb (count_in file * 7 + 4) 4294967296 (omega arith),
              eq-eqb (length file) (track_room (count_in file)) h2,
            )

        pub other_front : starts (track_front (count_in file * 7 + 4)) file ≡ false → false ≡ shaped file
        other_front e = sym (rest ∙ rw e)

        -- the events, and then the track's end
        pub by_events : (fine : Bool) → starts (track_front (count_in file * 7 + 4)) file ≡ true
            → fine ≡ (starts (tempo_events 0 (gaps_in file)) (drop 22 file) && every tempo_some (gaps_in file))
            → shaped file ≡ (fine && starts track_end (drop (22 + count_in file * 7) file))
        by_events fine h4 e =
            let s = starts (tempo_events 0 (gaps_in file)) (drop 22 file) in
            let end = starts track_end (drop (22 + count_in file * 7) file) in
            let v = every tempo_some (gaps_in file) in
            rest ∙ ap (λ (t : Bool). (t && (s && end)) && v) h4 ∙ turn s end v ∙ ap (λ (t : Bool). t && end) (sym e)

-- ---- what the shape tells

module _ (file : List ℕ) (e : shaped file ≡ true) where
  pub shaped-count : length file ≡ track_room (count_in file)
  shaped-count =
      let p = sym (shaped_pieces file) ∙ e in
      let q = and_right (ltb (count_in file * 7 + 4) 4294967296) _ (and_right (leb 1 (count_in file)) _ p) in
      eqb-true (length file) (track_room (count_in file)) (and_left _ _ (and_left _ (every tempo_some (gaps_in file)) q))

  pub shaped-some : 1 ≤ count_in file
  shaped-some = leb-true 1 (count_in file) (and_left (leb 1 (count_in file)) _ (sym (shaped_pieces file) ∙ e))

  -- it is the file of its own gaps
  pub shaped_file : file_of (gaps_in file) ≡ file
  unfolding shaped
  shaped_file =
      let gs = gaps_in file in
      sym (exactly-is (file_of gs) file
      (and_left _ (every tempo_some gs) (and_right (ltb (length (track_events gs)) 4294967296) _ (and_right (leb 1 (length gs)) _ e))))

  -- and none of them is 0
  pub shaped_nonzero : every tempo_some (gaps_in file) ≡ true
  unfolding shaped
  shaped_nonzero =
      let gs = gaps_in file in
      and_right (exactly (file_of gs) file) _ (and_right (ltb (length (track_events gs)) 4294967296) _ (and_right (leb 1 (length gs)) _ e))

-- ---- what is written is read

-- an event behind its delta
abbrev told : ℕ → List ℕ
told gap = 255 ∷ 81 ∷ 3 ∷ in_three_bytes gap

event_byte : (n : ℕ) (gaps rest : List ℕ) (i k : ℕ) → i < length gaps → k < 6
    → get_or (tempo_events n gaps ++ rest) (i * 7 + suc k) 0 ≡ get_or (told (get_or gaps i 0)) k 0
unfolding tempo_events
event_byte n [] rest i k h b = absurd (omega arith)
event_byte n (g ∷ gs) rest zero k h b =
    let e : 0 * 7 + suc k ≡ suc k = omega arith in
    ap (λ (m : ℕ). get_or (tempo_event (delta_of n) g ++ tempo_events (suc n) gs ++ rest) m 0) e
    ∙ get_or-append (told g ++ tempo_events (suc n) gs) rest 0 k (simp length-append (omega arith))
    ∙ get_or-append (told g) (tempo_events (suc n) gs) 0 k b
event_byte n (g ∷ gs) rest (suc i) k h b =
    let e : suc i * 7 + suc k ≡ 7 + (i * 7 + suc k) = omega arith in
    ap (λ (m : ℕ). get_or (tempo_event (delta_of n) g ++ tempo_events (suc n) gs ++ rest) m 0) e
    ∙ get_or-append-add (tempo_event (delta_of n) g) (tempo_events (suc n) gs ++ rest) (i * 7 + suc k) 0
    ∙ event_byte (suc n) gs rest i k (omega arith) b

file_byte : (gaps : List ℕ) (i k at : ℕ) → i < length gaps → k < 6 → at ≡ 22 + (i * 7 + suc k)
    → get_or (file_of gaps) at 0 ≡ get_or (told (get_or gaps i 0)) k 0
unfolding file_of track_events
file_byte gaps i k at h b e =
    ap (λ (n : ℕ). get_or (file_of gaps) n 0) e
    ∙ get_or-append-add (track_front (length (track_events gaps))) (track_events gaps) (i * 7 + suc k) 0
    ∙ event_byte 0 gaps track_end i k h b

-- three bytes and back
three_back : (g : ℕ) → tempo_from (g / 65536) (g / 256 % 256) (g % 256) ≡ g
three_back g = omega arith

gap_back : (gaps : List ℕ) (i : ℕ) → i < length gaps → gap_in (file_of gaps) i ≡ get_or gaps i 0
unfolding gap_in
gap_back gaps i h =
    let g = get_or gaps i 0 in
    let a : get_or (file_of gaps) (26 + i * 7) 0 ≡ g / 65536 = file_byte gaps i 3 (26 + i * 7) h (omega arith) (omega arith) in
    let b : get_or (file_of gaps) (26 + i * 7 + 1) 0 ≡ g / 256 % 256 = file_byte gaps i 4 (26 + i * 7 + 1) h (omega arith) (omega arith) in
    let c : get_or (file_of gaps) (26 + i * 7 + 2) 0 ≡ g % 256 = file_byte gaps i 5 (26 + i * 7 + 2) h (omega arith) (omega arith) in
    rw (a, b, c) (three_back g)

pub count-back : (gaps : List ℕ) → count_in (file_of gaps) ≡ length gaps
count-back gaps = omega (arith, file_length gaps)

-- the gaps of the file of some gaps are those gaps
pub gaps-back : (gaps : List ℕ) → gaps_in (file_of gaps) ≡ gaps
gaps-back gaps =
    ext_get_or 0 _ _ (count_in_lem (file_of gaps) ∙ count-back gaps)
    (λ i h.
    let l : i < length gaps = omega (arith, count_in_lem (file_of gaps), count-back gaps) in
    gap_at_lem (file_of gaps) i (omega (arith, count-back gaps)) ∙ gap_back gaps i l)

-- the file of one gap or more, none of which is 0, has the shape where its track's length has 32 bits
pub shaped-back : (gaps : List ℕ) → 1 ≤ length gaps → length gaps * 7 + 4 < 4294967296 → every tempo_some gaps ≡ true → shaped (file_of gaps) ≡ true
unfolding shaped
shaped-back gaps h k e =
    let g = gaps-back gaps in
    rw g (and_both (leb 1 (length gaps)) _ (le-leb 1 (length gaps) h)
    (and_both (ltb (length (track_events gaps)) 4294967296) _ (lt-ltb (length (track_events gaps)) 4294967296 (omega (arith, track-length gaps)))
    (and_both (exactly (file_of gaps) (file_of gaps)) _ (exactly_own (file_of gaps)) e)))
