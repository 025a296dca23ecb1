-- What is read is exactly what is written, line by line: `line_read`, `line_written`. Assumes nothing.
use mathlib.Core.Path.{◌≡◌, refl, sym, ap, ◌∙◌}
use mathlib.Core.Bool.{Bool, true, ◌&&◌}
use mathlib.Core.List.{List, [], ◌∷◌, ◌++◌, append_assoc}
use Prim.Native.Nat.{ℕ, ◌+◌, ◌-◌, ◌/◌, ◌%◌, ◌≤◌, ◌<◌}
use native.Mathlib.Omega.{arith}
use lib.Dec.{eqb}
use lib.ListN.{length, take, drop, length-append, length-drop}
use lib.Seq.{take_at, drop_at, drop-drop}
use borrow.Author.Tests.{eq-eqb, eqb-true}
use Rattle.numbers.specs.Lists.{every}
use Rattle.numbers.proofs.Tests.{and_left, and_right, and_both}
use Rattle.texts.specs.Texts.{starts}
use Rattle.texts.specs.Decimals.{decimal, is_digit, leading, behind, plain, number_from}
use Rattle.texts.proofs.Texts.{starts_own, starts_split}
use Rattle.texts.proofs.Decimals.{decimal-is, decimal-plain, decimal-number}
use Rattle.texts.proofs.Readings.{leading_own, leading_stop, leading-decimal, behind-decimal, leading_digits, leading_split, number_split}
use Rattle.label_seconds.specs.Seconds.{padded, seconds_text}
use Rattle.label_seconds.proofs.Padded.{tens, digit_high_end, padded-length, padded_digits, padded-is, padded-number}
use Rattle.label_seconds.proofs.Seconds.{seconds_length}
use Rattle.label_lines.specs.Lines.{beat_text, label_line, fraction, time_length, line_length, line_fine, time_of}

pub line_length_lem : (u : ℕ) → length (label_line u) ≡ length (seconds_text u) + length (seconds_text u) + 7
unfolding label_line
line_length_lem u =
    length-append (seconds_text u) ((9 ∷ []) ++ (seconds_text u ++ beat_text))
    ∙ (omega (arith, length-append (seconds_text u) beat_text))

-- ---- what is written is read

module _ (u : ℕ) (rest : List ℕ) where
  abbrev s : List ℕ
  s = seconds_text u

  abbrev text : List ℕ
  text = label_line u ++ rest

  abbrev after : List ℕ
  after = s ++ (beat_text ++ rest)

  -- the line, seen from its first time on
  parted : text ≡ s ++ (9 ∷ after)
  unfolding label_line
  parted =
      append_assoc s ((9 ∷ []) ++ (s ++ beat_text)) rest
      ∙ ap (λ (r : List ℕ). s ++ (9 ∷ r)) (append_assoc s beat_text rest)

  abbrev frac : List ℕ
  frac = padded 6 (u % 1000000) ++ (9 ∷ after)

  opened : text ≡ decimal (u / 1000000) ++ (46 ∷ frac)
  unfolding seconds_text
  opened = parted ∙ append_assoc (decimal (u / 1000000)) ((46 ∷ []) ++ padded 6 (u % 1000000)) (9 ∷ after)

  digits : leading text ≡ decimal (u / 1000000)
  digits = ap leading opened ∙ leading-decimal (u / 1000000) (46 ∷ frac) (leading_stop 46 frac refl)

  point : behind text ≡ 46 ∷ frac
  point = ap behind opened ∙ behind-decimal (u / 1000000) (46 ∷ frac) (leading_stop 46 frac refl)

  six : leading (fraction text) ≡ padded 6 (u % 1000000)
  six =
      ap (λ (r : List ℕ). leading (drop 1 r)) point ∙ leading_own (padded 6 (u % 1000000)) (9 ∷ after) (padded_digits 6 (u % 1000000))
      (leading_stop 9 after refl)

  long : length s ≡ time_length text
  long = seconds_length u ∙ ap (λ (ds : List ℕ). length ds + 7) (sym digits)

  first : take (time_length text) text ≡ s
  first = ap (take (time_length text)) parted ∙ take_at s (9 ∷ after) (time_length text) long

  tab-there : drop (time_length text) text ≡ 9 ∷ after
  tab-there = ap (drop (time_length text)) parted ∙ drop_at s (9 ∷ after) (time_length text) long

  second : drop (time_length text + 1) text ≡ after
  second = sym (drop-drop 1 (time_length text) text) ∙ ap (drop 1) tab-there

  third : drop (time_length text + time_length text + 1) text ≡ beat_text ++ rest
  third =
      let e : time_length text + time_length text + 1 ≡ time_length text + 1 + time_length text = omega arith in
      ap (λ (k : ℕ). drop k text) e ∙ sym (drop-drop (time_length text) (time_length text + 1) text) ∙ ap (drop (time_length text)) second
      ∙ drop_at s (beat_text ++ rest) (time_length text) long

  pub line_read : line_fine text ≡ true
  unfolding line_fine
  line_read =
      and_both (plain (leading text)) _ (ap plain digits ∙ decimal-plain (u / 1000000))
      (and_both (starts (46 ∷ []) (behind text)) _ (ap (starts (46 ∷ [])) point ∙ starts_own (46 ∷ []) frac)
      (and_both (eqb (length (leading (fraction text))) 6) _ (eq-eqb _ _ (ap length six ∙ padded-length 6 (u % 1000000)))
      (and_both (starts (9 ∷ []) (drop (time_length text) text)) _ (ap (starts (9 ∷ [])) tab-there ∙ starts_own (9 ∷ []) after)
      (and_both (starts (take (time_length text) text) (drop (time_length text + 1) text)) _
      (ap (λ (r : List ℕ). starts r (drop (time_length text + 1) text)) first ∙ ap (starts s) second ∙ starts_own s (beat_text ++ rest))
      (ap (starts beat_text) third ∙ starts_own beat_text rest)))))

  pub time_read : time_of text ≡ u
  unfolding time_of tens
  time_read =
      let a : number_from 0 (leading text) ≡ u / 1000000 = ap (number_from 0) digits ∙ decimal-is (u / 1000000) in
      let b : number_from 0 (leading (fraction text)) ≡ u % 1000000 = ap (number_from 0) six ∙ padded-is 6 (u % 1000000) (omega arith) in
      omega (arith, a, b)

  pub line_end : drop (line_length text) text ≡ rest
  line_end =
      let e : line_length text ≡ time_length text + time_length text + 1 + 6 = omega arith in
      ap (λ (k : ℕ). drop k text) e ∙ sym (drop-drop 6 (time_length text + time_length text + 1) text) ∙ ap (drop 6) third

-- ---- what is read was so written

six_below : (ds : List ℕ) → every is_digit ds ≡ true → length ds ≡ 6 → number_from 0 ds < 1000000
unfolding every number_from
six_below (a ∷ b ∷ c ∷ d ∷ e ∷ f ∷ []) g h =
    let ga = and_right (is_digit a) _ g in
    let gb = and_right (is_digit b) _ ga in
    let gc = and_right (is_digit c) _ gb in
    let gd = and_right (is_digit d) _ gc in
    let ge = and_right (is_digit e) _ gd in
    let ha = digit_high_end a (and_left (is_digit a) _ g) in
    let hb = digit_high_end b (and_left (is_digit b) _ ga) in
    let hc = digit_high_end c (and_left (is_digit c) _ gb) in
    let hd = digit_high_end d (and_left (is_digit d) _ gc) in
    let he = digit_high_end e (and_left (is_digit e) _ gd) in
    let hf = digit_high_end f (and_left (is_digit f) _ ge) in
    omega arith
six_below [] g h = absurd (omega arith)
six_below (a ∷ []) g h = absurd (omega arith)
six_below (a ∷ b ∷ []) g h = absurd (omega arith)
six_below (a ∷ b ∷ c ∷ []) g h = absurd (omega arith)
six_below (a ∷ b ∷ c ∷ d ∷ []) g h = absurd (omega arith)
six_below (a ∷ b ∷ c ∷ d ∷ e ∷ []) g h = absurd (omega arith)
six_below (a ∷ b ∷ c ∷ d ∷ e ∷ f ∷ x ∷ xs) g h = absurd (omega arith)

module _ (text : List ℕ) (fine : line_fine text ≡ true) where
  n : ℕ
  n = number_from 0 (leading text)

  m : ℕ
  m = number_from 0 (leading (fraction text))

  -- the tests
  record Tests : Type 0 where
    plain-is : plain (leading text) ≡ true
    dot : starts (46 ∷ []) (behind text) ≡ true
    six_are : length (leading (fraction text)) ≡ 6
    tab : starts (9 ∷ []) (drop (time_length text) text) ≡ true
    again : starts (take (time_length text) text) (drop (time_length text + 1) text) ≡ true
    beat : starts beat_text (drop (time_length text + time_length text + 1) text) ≡ true

  tests : Tests
  unfolding line_fine
  tests =
      let a = and_right (plain (leading text)) _ fine in
      let b = and_right (starts (46 ∷ []) (behind text)) _ a in
      let c = and_right (eqb (length (leading (fraction text))) 6) _ b in
      let d = and_right (starts (9 ∷ []) (drop (time_length text) text)) _ c in
      record {
        plain-is = and_left (plain (leading text)) _ fine;
        dot = and_left (starts (46 ∷ []) (behind text)) _ a;
        six_are = eqb-true _ _ (and_left (eqb (length (leading (fraction text))) 6) _ b);
        tab = and_left (starts (9 ∷ []) (drop (time_length text) text)) _ c;
        again = and_left (starts (take (time_length text) text) (drop (time_length text + 1) text)) _ d;
        beat = and_right (starts (take (time_length text) text) (drop (time_length text + 1) text)) _ d;
      }

  small : m < 1000000
  unfolding m
  small = six_below (leading (fraction text)) (leading_digits (fraction text)) tests.six_are

  pads : padded 6 m ≡ leading (fraction text)
  unfolding m
  pads =
      ap (λ (k : ℕ). padded k (number_from 0 (leading (fraction text)))) (sym tests.six_are)
      ∙ padded-number (leading (fraction text)) (leading_digits (fraction text))

  seconds_are : seconds_text (time_of text) ≡ decimal n ++ (46 ∷ padded 6 m)
  unfolding seconds_text time_of n m
  seconds_are =
      let h = small in
      let q : time_of text / 1000000 ≡ n = omega arith in
      let r : time_of text % 1000000 ≡ m = omega arith in
      ap (λ (k : ℕ). decimal k ++ ((46 ∷ []) ++ padded 6 (time_of text % 1000000))) q ∙ ap (λ (k : ℕ). decimal n ++ (46 ∷ padded 6 k)) r

  opened_at : text ≡ seconds_text (time_of text) ++ behind (fraction text)
  unfolding n
  opened_at =
      number_split text tests.plain-is
      ∙ ap (λ (r : List ℕ). decimal n ++ r) (starts_split (46 ∷ []) (behind text) tests.dot)
      ∙ ap (λ (r : List ℕ). decimal n ++ (46 ∷ r)) (leading_split (fraction text))
      ∙ ap (λ (r : List ℕ). decimal n ++ (46 ∷ (r ++ behind (fraction text)))) (sym pads)
      ∙ sym (append_assoc (decimal n) (46 ∷ padded 6 m) (behind (fraction text)))
      ∙ ap (λ (r : List ℕ). r ++ behind (fraction text)) (sym seconds_are)

  length_is : length (seconds_text (time_of text)) ≡ time_length text
  unfolding n
  length_is =
      ap length seconds_are ∙ length-append (decimal n) (46 ∷ padded 6 m)
      ∙ (omega (arith, padded-length 6 m, decimal-length))
    where
      decimal-length : length (decimal n) ≡ length (leading text)
      decimal-length = ap length (decimal-number (leading text) tests.plain-is (leading_digits text))

  first_is : take (time_length text) text ≡ seconds_text (time_of text)
  first_is = ap (take (time_length text)) opened_at ∙ take_at (seconds_text (time_of text)) (behind (fraction text)) (time_length text) length_is

  pub line_written : text ≡ label_line (time_of text) ++ drop (line_length text) text
  unfolding label_line
  line_written =
      let l = time_length text in
      let w = seconds_text (time_of text) in
      let rest = drop (line_length text) text in
      let s0 : text ≡ w ++ drop l text = opened_at ∙ ap (λ (r : List ℕ). w ++ r) (sym (ap (drop l) opened_at
      ∙ drop_at w (behind (fraction text)) l length_is)) in
      let s1 : drop l text ≡ 9 ∷ drop (l + 1) text = starts_split (9 ∷ []) (drop l text) tests.tab ∙ ap (λ (r : List ℕ). 9 ∷ r) (drop-drop 1 l text) in
      let e2 : l + 1 + length w ≡ l + l + 1 = omega (arith, length_is) in
      let s2 : drop (l + 1) text ≡ w ++ drop (l + l + 1) text
      = starts_split w (drop (l + 1) text) (ap (λ (r : List ℕ). starts r (drop (l + 1) text)) (sym first_is) ∙ tests.again)
      ∙ ap (λ (r : List ℕ). w ++ r) (drop-drop (length w) (l + 1) text ∙ ap (λ (k : ℕ). drop k text) e2) in
      let e3 : l + l + 1 + 6 ≡ line_length text = omega arith in
      let s3 : drop (l + l + 1) text ≡ beat_text ++ rest
      = starts_split beat_text (drop (l + l + 1) text) tests.beat
      ∙ ap (λ (r : List ℕ). beat_text ++ r) (drop-drop 6 (l + l + 1) text ∙ ap (λ (k : ℕ). drop k text) e3) in
      s0
      ∙ ap (λ (r : List ℕ). w ++ r) (s1 ∙ ap (λ (r : List ℕ). 9 ∷ r) (s2 ∙ ap (λ (r : List ℕ). w ++ r) s3 ∙ sym (append_assoc w beat_text rest)))
      ∙ sym (append_assoc w ((9 ∷ []) ++ (w ++ beat_text)) rest)

-- ---- along a text, by places

line_fits : (text : List ℕ) → line_fine text ≡ true → line_length text ≤ length text
line_fits text e =
    let a = ap length (line_written text e) ∙ length-append (label_line (time_of text)) (drop (line_length text) text) in
    omega (arith, a, line_length_lem (time_of text), length_is text e)

pub line_ends : (text : List ℕ) (at : ℕ) → line_fine (drop at text) ≡ true → at + line_length (drop at text) ≤ length text
line_ends text at e = omega (arith, line_fits (drop at text) e, length-drop at text)

-- ---- the tests of a line, by places

abbrev pub again : List ℕ → ℕ → ℕ → Bool
again text at end = starts (take (end - at) (drop at text)) (drop (end + 1) text)

abbrev pub beat : List ℕ → ℕ → ℕ → Bool
beat text at end = starts beat_text (drop (end + 1 + (end - at)) text)

module _ (text : List ℕ) (at dot : ℕ) (d : dot ≡ at + length (leading (drop at text))) where
  behind-at : behind (drop at text) ≡ drop dot text
  unfolding behind
  behind-at = drop-drop (length (leading (drop at text))) at text ∙ ap (λ (k : ℕ). drop k text) (sym d)

  pub fraction-at : fraction (drop at text) ≡ drop (dot + 1) text
  fraction-at = ap (drop 1) behind-at ∙ drop-drop 1 dot text

  pub line_tests : (end : ℕ) → end ≡ dot + 7 → line_fine (drop at text)
      ≡ (plain (leading (drop at text)) && (starts (46 ∷ []) (drop dot text) && (eqb (length (leading (drop (dot + 1) text))) 6
      && (starts (9 ∷ []) (drop end text) && (again text at end && beat text at end)))))
  unfolding line_fine
  line_tests end e =
      let l = time_length (drop at text) in
      let a : l ≡ end - at = omega arith in
      let p4 : drop l (drop at text) ≡ drop end text = place l end (omega arith) in
      let p5 : drop (l + 1) (drop at text) ≡ drop (end + 1) text = place (l + 1) (end + 1) (omega arith) in
      let p6 : drop (l + l + 1) (drop at text) ≡ drop (end + 1 + (end - at)) text = place (l + l + 1) (end + 1 + (end - at)) (omega arith) in
      let t5 : starts (take l (drop at text)) (drop (l + 1) (drop at text)) ≡ again text at end
      = ap (λ (k : ℕ). starts (take k (drop at text)) (drop (l + 1) (drop at text))) a ∙ ap (starts (take (end - at) (drop at text))) p5 in
      six_same (plain (leading (drop at text))) _ _ _ _ _ _ _ _ _ _ (ap (starts (46 ∷ [])) behind-at) (ap (λ (r : List ℕ). eqb (length
      (leading r)) 6) fraction-at) (ap (starts (9 ∷ [])) p4) t5 (ap (starts beat_text) p6)
    where
      place : (k j : ℕ) → at + k ≡ j → drop k (drop at text) ≡ drop j text
      place k j e = drop-drop k at text ∙ ap (λ (i : ℕ). drop i text) e

      six_same : (p a b c d f a' b' c' d' f' : Bool) → a ≡ a' → b ≡ b' → c ≡ c' → d ≡ d' → f ≡ f'
          → (p && (a && (b && (c && (d && f))))) ≡ (p && (a' && (b' && (c' && (d' && f')))))
      six_same p a b c d f a' b' c' d' f' q r v t u = cc

-- a fraction of six digits
pub fraction_small : (text : List ℕ) → line_fine text ≡ true → number_from 0 (leading (fraction text)) < 1000000
unfolding m
fraction_small text e = small text e
