-- What is read is exactly what is written: for any offsets `chunk_fine_lem`, `offsets_own` and `chunk_exact`. Assumes nothing.
use mathlib.Core.Path.{◌≡◌, refl, sym, ap, ◌∙◌}
use mathlib.Core.Bool.{true}
use mathlib.Core.List.{List, [], ◌∷◌, ◌++◌, append_assoc, append-nil}
use Prim.Native.Nat.{ℕ, zero, suc, ◌+◌, ◌*◌, ◌≤◌, ◌<◌}
use native.Mathlib.Numerals.{add-one}
use native.Mathlib.Omega.{arith}
use lib.Dec.{eqb}
use lib.ListN.{length, get_or, take, drop, length-append, drop_of_length-le}
use lib.Seq.{drop-cons, drop-drop, drop-nil, drop-append-add, take-suc, take-length, length-take-le}
use borrow.Author.Tests.{eq-eqb, eqb-true, ltb-true}
use Rattle.numbers.specs.Lists.{every, tab, curve}
use Rattle.numbers.proofs.Tests.{and_left, and_right, and_both}
use Rattle.numbers.proofs.Tabs.{tab_ext, curve_of_lem, length-tab}
use Rattle.numbers.proofs.Everys.{every-at}
use Rattle.times.specs.Micros.{sample_of}
use Rattle.words.specs.Words.{word, word_at, byte_fine, word_fine}
use Rattle.words.proofs.Words.{word_back, word_split, word-within}
use Rattle.cue_points.specs.Chunks.{data_name, cue_word, data_word, offsets_of, point, points_from, head_of, chunk_of}
use Rattle.cue_points.specs.Chunks.{count_of, head_fine, point_at, fields_fine, point_fine, all_from, chunk_fine, offset_at}
use Rattle.cues.proofs.Runs.{all-at, all_of}
use Rattle.cue_points.proofs.Heads.{head_says, head_length, fields_same}

-- ---- lengths, and one point more

pub offsets_length : (ts : List ℕ) → length (offsets_of ts) ≡ length ts
unfolding offsets_of
offsets_length [] = refl
offsets_length (t ∷ ts) = ap suc (offsets_length ts)

point-length : (i o : ℕ) → length (point i o) ≡ 24
unfolding point word
point-length i o = refl

pub head_is_twelve : (n : ℕ) → length (head_of n) ≡ 12
unfolding head_of word
head_is_twelve n = refl

pub points_length : (os : List ℕ) (s : ℕ) → length (points_from s os) ≡ 24 * length os
unfolding points_from
points_length [] s = refl
points_length (o ∷ os) s = length-append (point s o) (points_from (suc s) os) ∙ (omega (arith, point-length s o, points_length os (suc s)))

pub chunk_length_lem : (os : List ℕ) → length (chunk_of os) ≡ 12 + 24 * length os
unfolding chunk_of
chunk_length_lem os = length-append (head_of (length os)) (points_from 0 os) ∙ (omega (arith, head_is_twelve (length os), points_length os 0))

points_last : (os : List ℕ) (s o : ℕ) → points_from s (os ++ (o ∷ [])) ≡ points_from s os ++ point (s + length os) o
unfolding points_from
points_last [] s o = let e : s ≡ s + 0 = omega arith in append-nil (point s o) ∙ ap (λ (k : ℕ). point k o) e
points_last (x ∷ os) s o =
    let e : suc s + length os ≡ s + suc (length os) = omega arith in
    ap (λ (r : List ℕ). point s x ++ r) (points_last os (suc s) o)
    ∙ sym (append_assoc (point s x) (points_from (suc s) os) (point (suc s + length os) o))
    ∙ ap (λ (k : ℕ). (point s x ++ points_from (suc s) os) ++ point k o) e

offsets_last : (ts : List ℕ) (t : ℕ) → offsets_of (ts ++ (t ∷ [])) ≡ offsets_of ts ++ (sample_of t ∷ [])
unfolding offsets_of
offsets_last [] t = refl
offsets_last (x ∷ ts) t = ap (λ (r : List ℕ). sample_of x ∷ r) (offsets_last ts t)

-- the points of the first frames, and of one more
abbrev pub points_to : List ℕ → ℕ → List ℕ
points_to ts i = points_from 0 (offsets_of (take i ts))

pub points_none : (ts : List ℕ) → points_to ts 0 ≡ []
unfolding points_from offsets_of
points_none ts = refl

pub points_more : (ts : List ℕ) (i : ℕ) → i < length ts → points_to ts (i + 1) ≡ points_to ts i ++ point i (sample_of (get_or ts i 0))
points_more ts i h =
    let n : 0 + length (offsets_of (take i ts)) ≡ i = omega (arith, offsets_length (take i ts), length-take-le i ts (omega arith)) in
    ap (λ (k : ℕ). points_to ts k) (add-one i)
    ∙ ap (λ (r : List ℕ). points_from 0 (offsets_of r)) (take-suc ts i 0 h)
    ∙ ap (points_from 0) (offsets_last (take i ts) (get_or ts i 0))
    ∙ points_last (offsets_of (take i ts)) 0 (sample_of (get_or ts i 0))
    ∙ ap (λ (k : ℕ). points_to ts i ++ point k (sample_of (get_or ts i 0))) n

pub points_all : (ts : List ℕ) (i : ℕ) → i ≡ length ts → points_to ts i ≡ points_from 0 (offsets_of ts)
points_all ts i e = ap (points_to ts) e ∙ ap (λ (r : List ℕ). points_from 0 (offsets_of r)) (take-length ts)

pub points_to_length : (ts : List ℕ) (i : ℕ) → i ≤ length ts → length (points_to ts i) ≡ 24 * i
points_to_length ts i h = points_length (offsets_of (take i ts)) 0 ∙ (omega (arith, offsets_length (take i ts), length-take-le i ts h))

-- ---- what is written is read

points_drop : (os : List ℕ) (i s : ℕ) → drop (i * 24) (points_from s os) ≡ points_from (s + i) (drop i os)
unfolding points_from
points_drop os zero s = let e : s ≡ s + 0 = omega arith in ap (λ (k : ℕ). points_from k os) e
points_drop [] (suc i) s = drop-nil (suc i * 24)
points_drop (o ∷ os) (suc i) s =
    let e : suc i * 24 ≡ length (point s o) + i * 24 = omega (arith, point-length s o) in
    let g : suc s + i ≡ s + suc i = omega arith in
    ap (λ (k : ℕ). drop k (point s o ++ points_from (suc s) os)) e
    ∙ drop-append-add (point s o) (points_from (suc s) os) (i * 24)
    ∙ points_drop os i (suc s)
    ∙ ap (λ (k : ℕ). points_from k (drop i os)) g

points_of : (os : List ℕ) → drop 12 (chunk_of os) ≡ points_from 0 os
unfolding chunk_of head_of word
points_of os = refl

point_of : (os : List ℕ) (i : ℕ) → i < length os → point_at (chunk_of os) i ≡ point i (get_or os i 0) ++ points_from (suc i) (drop (suc i) os)
unfolding points_from
point_of os i h =
    let e : 0 + i ≡ i = omega arith in
    sym (drop-drop (i * 24) 12 (chunk_of os))
    ∙ ap (drop (i * 24)) (points_of os)
    ∙ points_drop os i 0
    ∙ ap (λ (k : ℕ). points_from k (drop i os)) e
    ∙ ap (points_from i) (drop-cons os i 0 h)

-- a point's words, and that they are fine
pub record Point (c : List ℕ) (i o : ℕ) : Type 0 where
  pub fine : point_fine c i ≡ true
  pub offset : offset_at c i ≡ o

point_read : (c : List ℕ) (i o : ℕ) (rest : List ℕ) → point_at c i ≡ point i o ++ rest → i + 1 < 4294967296 → o < 4294967296 → Point c i o
unfolding point word
point_read c i o rest e h k =
    let p = point_at c i in
    let w0 : word_at p 0 ≡ i + 1 = ap (λ (r : List ℕ). word_at r 0) e ∙ word_back (i + 1) (word o ++ (data_name ++ (word 0 ++ (word 0 ++ (word o ++ rest))))) h in
    let w1 : word_at p 4 ≡ o = ap (λ (r : List ℕ). word_at r 4) e ∙ word_back o (data_name ++ (word 0 ++ (word 0 ++ (word o ++ rest)))) k in
    let w2 : word_at p 8 ≡ data_word = ap (λ (r : List ℕ). word_at r 8) e ∙ word_back data_word (word 0 ++ (word 0 ++ (word o ++ rest))) (omega arith) in
    let w3 : word_at p 12 ≡ 0 = ap (λ (r : List ℕ). word_at r 12) e ∙ word_back 0 (word 0 ++ (word o ++ rest)) (omega arith) in
    let w4 : word_at p 16 ≡ 0 = ap (λ (r : List ℕ). word_at r 16) e ∙ word_back 0 (word o ++ rest) (omega arith) in
    let w5 : word_at p 20 ≡ o = ap (λ (r : List ℕ). word_at r 20) e ∙ word_back o rest k in
    record {
      fine = fields_same i w0 w1 w2 w3 w4 w5 ∙ fields_own i o;
      offset = w5;
    }
  where
    fields_own : (i o : ℕ) → fields_fine i (i + 1) o data_word 0 0 o ≡ true
    fields_own i o = rw (eq-eqb (i + 1) (i + 1) refl, eq-eqb o o refl)

module _ (os : List ℕ) (few : length os < 100000000) (fit : every word_fine os ≡ true) where
  pub count_own : count_of (chunk_of os) ≡ length os
  unfolding chunk_of head_of word
  count_own = word_back (length os) (points_from 0 os) (omega arith)

  head_own : head_fine (chunk_of os) ≡ true
  unfolding chunk_of head_of word
  head_own =
      let n = count_own in
      let size : word_at (chunk_of os) 4 ≡ 4 + 24 * length os = word_back (4 + 24 * length os) (word (length os) ++ points_from 0 os) (omega arith) in
      let id : word_at (chunk_of os) 0 ≡ cue_word = word_back cue_word (word (4 + 24 * length os) ++ (word (length os) ++ points_from 0 os)) (omega arith) in
      let whole = chunk_length_lem os in
      head_length (chunk_of os) (omega arith) id (omega (arith, size, n)) ∙ eq-eqb _ _ (whole ∙ ap (λ (k : ℕ). 12 + 24 * k) (sym n))

  pub point_own : (i : ℕ) → i < length os → Point (chunk_of os) i (get_or os i 0)
  point_own i h = point_read (chunk_of os) i (get_or os i 0) _ (point_of os i h) (omega arith) (ltb-true _ _ (every-at word_fine os i 0 fit h))

  -- the chunk of any offsets is of the form
  pub chunk_fine_lem : chunk_fine (chunk_of os) ≡ true
  unfolding chunk_fine
  chunk_fine_lem =
      and_both (head_fine (chunk_of os)) _ head_own (all_of (point_fine (chunk_of os)) (count_of (chunk_of os)) 0 (λ i h k. (point_own i (omega
      (arith, count_own))).fine))

  -- and its offsets are they
  pub offsets_own : curve (offset_at (chunk_of os)) (count_of (chunk_of os)) ≡ os
  offsets_own =
      ap (curve (offset_at (chunk_of os))) count_own
      ∙ tab_ext (offset_at (chunk_of os)) (λ i. get_or os i 0) 0 (length os) (λ i h k. (point_own i (omega arith)).offset)
      ∙ curve_of_lem os 0

-- ---- what is read was so written

-- a point that is fine
module _ (c : List ℕ) (bytes : every byte_fine c ≡ true) (i : ℕ) (fine : point_fine c i ≡ true) (room : 36 + i * 24 ≤ length c) where
  point_split : point_at c i ≡ point i (offset_at c i) ++ point_at c (suc i)
  unfolding point word
  point_split =
      let at = 12 + i * 24 in
      let p = point_at c i in
      let o = offset_at c i in
      let f1 = and_right (eqb (word_at p 0) (i + 1)) _ fine in
      let f2 = and_right (eqb (word_at p 8) data_word) _ f1 in
      let f3 = and_right (eqb (word_at p 12) 0) _ f2 in
      let z : at ≡ at + 0 = omega arith in
      let w0 : word_at c at ≡ i + 1 = ap (word_at c) z ∙ sym (word-within c at 0) ∙ eqb-true _ _ (and_left (eqb (word_at p 0) (i + 1)) _ fine) in
      let w2 : word_at c (at + 8) ≡ data_word = sym (word-within c at 8) ∙ eqb-true _ _ (and_left (eqb (word_at p 8) data_word) _ f1) in
      let w3 : word_at c (at + 12) ≡ 0 = sym (word-within c at 12) ∙ eqb-true _ _ (and_left (eqb (word_at p 12) 0) _ f2) in
      let w4 : word_at c (at + 16) ≡ 0 = sym (word-within c at 16) ∙ eqb-true _ _ (and_left (eqb (word_at p 16) 0) _ f3) in
      let w5 : word_at c (at + 20) ≡ o = sym (word-within c at 20) in
      let w1 : word_at c (at + 4) ≡ o = sym (word-within c at 4) ∙ eqb-true _ _ (and_right (eqb (word_at p 16) 0) _ f3) in
      let s0 : drop at c ≡ word (i + 1) ++ drop (at + 4) c = word_split c at bytes (omega arith) ∙ ap (λ (n : ℕ). word n ++ drop (at + 4) c) w0 in
      let s1 : drop (at + 4) c ≡ word o ++ drop (at + 8) c = word_split c (at + 4) bytes (omega arith) ∙ next (at + 4) 8 w1 (omega arith) in
      let s2 : drop (at + 8) c ≡ word data_word ++ drop (at + 12) c = word_split c (at + 8) bytes (omega arith) ∙ next (at + 8) 12 w2 (omega arith) in
      let s3 : drop (at + 12) c ≡ word 0 ++ drop (at + 16) c = word_split c (at + 12) bytes (omega arith) ∙ next (at + 12) 16 w3 (omega arith) in
      let s4 : drop (at + 16) c ≡ word 0 ++ drop (at + 20) c = word_split c (at + 16) bytes (omega arith) ∙ next (at + 16) 20 w4 (omega arith) in
      let s5 : drop (at + 20) c ≡ word o ++ drop (12 + suc i * 24) c = word_split c (at + 20) bytes (omega arith) ∙ last w5 in
      s0
      ∙ ap (λ (r : List ℕ). word (i + 1) ++ r)
      (s1 ∙ ap (λ (r : List ℕ). word o ++ r)
      (s2 ∙ ap (λ (r : List ℕ). data_name ++ r) (s3 ∙ ap (λ (r : List ℕ). word 0 ++ r) (s4 ∙ ap (λ (r : List ℕ). word 0 ++ r) s5))))
    where
      next : (a k : ℕ) {m n : ℕ} → m ≡ n → a + 4 ≡ 12 + i * 24 + k → word m ++ drop (a + 4) c ≡ word n ++ drop (12 + i * 24 + k) c
      next a k e g = cc

      last : {m n : ℕ} → m ≡ n → word m ++ drop (12 + i * 24 + 20 + 4) c ≡ word n ++ drop (12 + suc i * 24) c
      last e = let g : 12 + i * 24 + 20 + 4 ≡ 12 + suc i * 24 = omega arith in cc

module _ (c : List ℕ) (bytes : every byte_fine c ≡ true) (n : ℕ) (whole : length c ≡ 12 + 24 * n) (fine : all_from (point_fine c) 0 n ≡ true) where
  points_split : (k i : ℕ) → i + k ≡ n → drop (12 + i * 24) c ≡ points_from i (tab (offset_at c) i k)
  unfolding points_from
  points_split zero i e = let h : length c ≤ 12 + i * 24 = omega arith in drop_of_length-le c h
  points_split (suc k) i e =
      point_split c bytes i (all-at (point_fine c) n 0 i fine (omega arith) (omega arith)) (omega arith)
      ∙ ap (λ (r : List ℕ). point i (offset_at c i) ++ r) (points_split k (suc i) (omega arith))

-- a chunk of the form is that of its offsets
pub chunk_exact : (c : List ℕ) → every byte_fine c ≡ true → chunk_fine c ≡ true → c ≡ chunk_of (curve (offset_at c) (count_of c))
unfolding chunk_fine chunk_of head_of word
chunk_exact c bytes fine =
    let h = head_says c (and_left (head_fine c) _ fine) in
    let n = count_of c in
    let whole = h.whole in
    let m : length (curve (offset_at c) n) ≡ n = length-tab (offset_at c) 0 n in
    let s0 : c ≡ word cue_word ++ drop 4 c = word_split c 0 bytes (omega arith) ∙ ap (λ (k : ℕ). word k ++ drop 4 c) h.id in
    let s1 : drop 4 c ≡ word (4 + 24 * n) ++ drop 8 c = word_split c 4 bytes (omega arith) ∙ ap (λ (k : ℕ). word k ++ drop 8 c) h.size in
    let s2 : drop 8 c ≡ word n ++ drop 12 c = word_split c 8 bytes (omega arith) in
    let s3 : drop 12 c ≡ points_from 0 (curve (offset_at c) n) = points_split c bytes n whole (and_right (head_fine c) _ fine) n 0 (omega arith) in
    s0
    ∙ ap (λ (r : List ℕ). word cue_word ++ r) (s1 ∙ ap (λ (r : List ℕ). word (4 + 24 * n) ++ r) (s2 ∙ ap (λ (r : List ℕ). word n ++ r) s3))
    ∙ ap (λ (k : ℕ). head_of k ++ points_from 0 (curve (offset_at c) n)) (sym m)
