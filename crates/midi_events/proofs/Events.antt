-- The bytes of a file of tempos: how long they are, one event more, and where each piece starts. Assumes nothing.
use mathlib.Core.Path.{◌≡◌, refl, sym, ap, ◌∙◌}
use mathlib.Core.Bool.{Bool, ◌&&◌}
use mathlib.Core.List.{List, [], ◌∷◌, ◌++◌}
use Prim.Native.Nat.{ℕ, zero, suc, ◌+◌, ◌*◌, ◌<◌}
use native.Mathlib.Numerals.{add-one}
use native.Mathlib.Omega.{arith}
use lib.Dec.{eqb}
use lib.ListN.{length, get_or, take, drop, length-append}
use lib.Seq.{drop-cons, drop-drop, take-suc, length-take-le}
use Rattle.texts.specs.Texts.{starts}
use Rattle.texts.proofs.Texts.{starts-append}
use Rattle.midi_events.specs.File.{track_front, in_three_bytes, delta_of, tempo_event, track_end, tempo_events, track_events, file_of}
use Rattle.midi_events.specs.Shapes.{track_room}

-- ---- lengths

pub events_length : (i : ℕ) (gaps : List ℕ) → length (tempo_events i gaps) ≡ length gaps * 7
unfolding tempo_events
events_length i [] = refl
events_length i (g ∷ gs) = let e = events_length (suc i) gs in omega arith

pub track-length : (gaps : List ℕ) → length (track_events gaps) ≡ length gaps * 7 + 4
unfolding track_events
track-length gaps = length-append (tempo_events 0 gaps) track_end ∙ ap (λ (n : ℕ). n + 4) (events_length 0 gaps)

pub file_length : (gaps : List ℕ) → length (file_of gaps) ≡ track_room (length gaps)
unfolding file_of
file_length gaps = length-append (track_front (length (track_events gaps))) (track_events gaps) ∙ omega (arith, track-length gaps)

-- ---- one event more

pub no_events : (i : ℕ) → tempo_events i [] ≡ []
unfolding tempo_events
no_events i = refl

pub delta_later : (i : ℕ) → 0 < i → delta_of i ≡ 96
delta_later zero h = absurd (omega arith)
delta_later (suc i) h = refl

events_snoc : (i : ℕ) (gs : List ℕ) (g : ℕ) → tempo_events i (gs ++ (g ∷ [])) ≡ tempo_events i gs ++ tempo_event (delta_of (i + length gs)) g
unfolding tempo_events
events_snoc i [] g = let e : i ≡ i + 0 = omega arith in ap (λ (k : ℕ). tempo_event (delta_of k) g) e
events_snoc i (x ∷ gs) g =
    let e : suc i + length gs ≡ i + suc (length gs) = omega arith in
    ap (λ (r : List ℕ). tempo_event (delta_of i) x ++ r) (events_snoc (suc i) gs g)
    ∙ ap (λ (k : ℕ). tempo_event (delta_of i) x ++ (tempo_events (suc i) gs ++ tempo_event (delta_of k) g)) e

-- event i behind those before it
pub events_more : (gaps : List ℕ) (i : ℕ) → i < length gaps
    → tempo_events 0 (take i gaps) ++ tempo_event (delta_of i) (get_or gaps i 0) ≡ tempo_events 0 (take (i + 1) gaps)
events_more gaps i h =
    let e : i ≡ 0 + length (take i gaps) = omega (arith, length-take-le i gaps (omega arith)) in
    ap (λ (k : ℕ). tempo_events 0 (take i gaps) ++ tempo_event (delta_of k) (get_or gaps i 0)) e
    ∙ sym (events_snoc 0 (take i gaps) (get_or gaps i 0))
    ∙ ap (tempo_events 0) (sym (take-suc gaps i 0 h))
    ∙ ap (λ (k : ℕ). tempo_events 0 (take k gaps)) (sym (add-one i))

-- the first of those that are left, and the rest
pub events_step : (gaps : List ℕ) (i : ℕ) → i < length gaps
    → tempo_events i (drop i gaps) ≡ tempo_event (delta_of i) (get_or gaps i 0) ++ tempo_events (i + 1) (drop (i + 1) gaps)
unfolding tempo_events
events_step gaps i h = rw (add-one i, drop-cons gaps i 0 h)

-- ---- where pieces start

-- an event: its delta, its status and kind, its tempo
pub event_pieces : (delta gap : ℕ) (file : List ℕ) (at : ℕ) → at < length file
    → starts (tempo_event delta gap) (drop at file)
    ≡ (eqb (get_or file at 0) delta && (starts (255 ∷ 81 ∷ 3 ∷ []) (drop (at + 1) file) && starts (in_three_bytes gap) (drop (at + 4) file)))
unfolding starts
event_pieces delta gap file at h =
    let e : at + 1 + 3 ≡ at + 4 = omega arith in
    ap (starts (tempo_event delta gap)) (drop-cons file at 0 h)
    ∙ ap (λ (n : ℕ). eqb (get_or file at 0) delta && starts (255 ∷ 81 ∷ 3 ∷ in_three_bytes gap) (drop n file)) (sym (add-one at))
    ∙ ap (λ (t : Bool). eqb (get_or file at 0) delta && t) (starts-append (255 ∷ 81 ∷ 3 ∷ []) (in_three_bytes gap) (drop (at + 1) file))
    ∙ ap (λ (l : List ℕ). eqb (get_or file at 0) delta && (starts (255 ∷ 81 ∷ 3 ∷ []) (drop (at + 1) file) && starts (in_three_bytes gap) l))
    (drop-drop 3 (at + 1) file)
    ∙ ap (λ (n : ℕ). eqb (get_or file at 0) delta && (starts (255 ∷ 81 ∷ 3 ∷ []) (drop (at + 1) file) && starts (in_three_bytes gap) (drop n file))) e

-- the file: its front, its events, its end
pub file_pieces : (gaps file : List ℕ) → starts (file_of gaps) file
    ≡ (starts (track_front (length gaps * 7 + 4)) file && (starts (tempo_events 0 gaps) (drop 22 file) && starts track_end (drop (22 + length gaps * 7) file)))
unfolding file_of track_events
file_pieces gaps file =
    let n = length gaps * 7 in
    ap (λ (k : ℕ). starts (track_front k ++ track_events gaps) file) (track-length gaps)
    ∙ starts-append (track_front (n + 4)) (track_events gaps) file
    ∙ ap (λ (t : Bool). starts (track_front (n + 4)) file && t)
    (starts-append (tempo_events 0 gaps) track_end (drop 22 file)
    ∙ ap (λ (l : List ℕ). starts (tempo_events 0 gaps) (drop 22 file) && starts track_end l)
    (drop-drop (length (tempo_events 0 gaps)) 22 file ∙ ap (λ (k : ℕ). drop (22 + k) file) (events_length 0 gaps)))
