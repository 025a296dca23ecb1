-- What is read is exactly what is written, of all lines: `lines_read`, `times_read`, `lines_written`; and the lines from a place on. Assumes nothing.
use mathlib.Core.Path.{◌≡◌, refl, sym, ap, ◌∙◌}
use mathlib.Core.Bool.{Bool, true, false, ◌&&◌}
use mathlib.Core.List.{List, [], ◌∷◌, ◌++◌}
use mathlib.Core.Logic.{⊎_elim}
use Prim.Native.Nat.{ℕ, zero, suc, ◌+◌, ◌-◌, ◌≤◌, ◌<◌}
use native.Mathlib.Omega.{arith}
use lib.ListN.{length, drop, length-append, length-drop}
use lib.Seq.{drop-drop}
use borrow.Author.Tests.{eq-eqb, eqb-true, ne_eqb}
use Rattle.numbers.proofs.Tests.{and_left, and_right, and_both, lt_or_le}
use Rattle.label_lines.specs.Lines.{label_line, line_length, line_fine, time_of}
use Rattle.label_lines.proofs.Lines.{line_length_lem, line_read, time_read, line_end, line_written}
use Rattle.label_tracks.specs.Tracks.{label_lines, lines_fine, times_of}

no_text : (xs : List ℕ) → length xs ≡ 0 → xs ≡ []
no_text [] e = refl
no_text (x ∷ xs) e = absurd (omega arith)

-- one step of the readers, at a text that is empty and at one that is not
module _ (k : ℕ) (text : List ℕ) where
  pub lines_none : length text ≡ 0 → lines_fine k text ≡ true
  unfolding lines_fine
  lines_none e = none k
    where
      none : (k : ℕ) → lines_fine k text ≡ true
      none zero = eq-eqb (length text) 0 e
      none (suc k) = rw (eq-eqb (length text) 0 e)

  pub lines_some : 0 < length text → lines_fine (suc k) text ≡ (line_fine text && lines_fine k (drop (line_length text) text))
  unfolding lines_fine
  lines_some h = rw (ne_eqb (length text) 0 (λ e. omega arith))

  pub times_none : length text ≡ 0 → times_of k text ≡ []
  unfolding times_of
  times_none e = none k
    where
      none : (k : ℕ) → times_of k text ≡ []
      none zero = refl
      none (suc k) = rw (eq-eqb (length text) 0 e)

  pub times_some : 0 < length text → times_of (suc k) text ≡ time_of text ∷ times_of k (drop (line_length text) text)
  unfolding times_of
  times_some h = rw (ne_eqb (length text) 0 (λ e. omega arith))

-- the lines of any times are read as they
lines_cons : (u : ℕ) (us : List ℕ) → label_lines (u ∷ us) ≡ label_line u ++ label_lines us
unfolding label_lines
lines_cons u us = refl

lines_nil : label_lines [] ≡ []
unfolding label_lines
lines_nil = refl

lines_there : (us : List ℕ) (k : ℕ) → lines_fine (length us + k) (label_lines us) ≡ true
lines_there [] k = lines_none (0 + k) (label_lines []) (ap length lines_nil)
lines_there (u ∷ us) k =
    let t = label_line u ++ label_lines us in
    let e : suc (length us) + k ≡ suc (length us + k) = omega arith in
    ap (lines_fine (suc (length us) + k)) (lines_cons u us)
    ∙ ap (λ (j : ℕ). lines_fine j t) e
    ∙ lines_some (length us + k) t (omega (arith, length-append (label_line u) (label_lines us), line_length_lem u))
    ∙ and_both (line_fine t) _ (line_read u (label_lines us)) (ap (lines_fine (length us + k)) (line_end u (label_lines us)) ∙ lines_there us k)

times_there : (us : List ℕ) (k : ℕ) → times_of (length us + k) (label_lines us) ≡ us
times_there [] k = times_none (0 + k) (label_lines []) (ap length lines_nil)
times_there (u ∷ us) k =
    let t = label_line u ++ label_lines us in
    let e : suc (length us) + k ≡ suc (length us + k) = omega arith in
    ap (times_of (suc (length us) + k)) (lines_cons u us)
    ∙ ap (λ (j : ℕ). times_of j t) e
    ∙ times_some (length us + k) t (omega (arith, length-append (label_line u) (label_lines us), line_length_lem u))
    ∙ ap (λ (x : ℕ). x ∷ times_of (length us + k) (drop (line_length t) t)) (time_read u (label_lines us))
    ∙ ap (λ (r : List ℕ). u ∷ r) (ap (times_of (length us + k)) (line_end u (label_lines us)) ∙ times_there us k)

-- no text has more lines than bytes
lines_long : (us : List ℕ) → length us ≤ length (label_lines us)
lines_long [] = omega arith
lines_long (u ∷ us) = omega (arith, ap length (lines_cons u us), length-append (label_line u) (label_lines us), line_length_lem u, lines_long us)

module _ (us : List ℕ) where
  room : length us + (length (label_lines us) - length us) ≡ length (label_lines us)
  room = omega (arith, lines_long us)

  pub lines_read : lines_fine (length (label_lines us)) (label_lines us) ≡ true
  lines_read = ap (λ (k : ℕ). lines_fine k (label_lines us)) (sym room) ∙ lines_there us (length (label_lines us) - length us)

  pub times_read : times_of (length (label_lines us)) (label_lines us) ≡ us
  times_read = ap (λ (k : ℕ). times_of k (label_lines us)) (sym room) ∙ times_there us (length (label_lines us) - length us)

-- lines of the form are those of their times
pub lines_written : (k : ℕ) (text : List ℕ) → lines_fine k text ≡ true → text ≡ label_lines (times_of k text)
unfolding lines_fine times_of
lines_written zero text e = no_text text (eqb-true (length text) 0 e) ∙ sym lines_nil
lines_written (suc k) text e =
    ⊎_elim
    (λ (h : 0 < length text).
    let f = sym (lines_some k text h) ∙ e in
    line_written text (and_left (line_fine text) _ f)
    ∙ ap (λ (r : List ℕ). label_line (time_of text) ++ r) (lines_written k (drop (line_length text) text) (and_right (line_fine text) _ f))
    ∙ sym (ap label_lines (times_some k text h) ∙ lines_cons (time_of text) (times_of k (drop (line_length text) text))))
    (λ (h : length text ≤ 0).
    let z : length text ≡ 0 = omega arith in
    no_text text z ∙ sym (ap label_lines (times_none (suc k) text z) ∙ lines_nil))
    (lt_or_le 0 (length text))

-- ---- along a text, by places

-- more room for lines changes nothing
lines_same : (k j : ℕ) (text : List ℕ) → length text ≤ k → length text ≤ j → lines_fine k text ≡ lines_fine j text
lines_same zero j text h g = lines_none zero text (omega arith) ∙ sym (lines_none j text (omega arith))
lines_same (suc k) zero text h g = lines_none (suc k) text (omega arith) ∙ sym (lines_none zero text (omega arith))
lines_same (suc k) (suc j) text h g =
    ⊎_elim
    (λ (u : 0 < length text).
    let less = length-drop (line_length text) text in
    lines_some k text u
    ∙ ap (λ (b : Bool). line_fine text && b) (lines_same k j (drop (line_length text) text) (omega arith) (omega arith))
    ∙ sym (lines_some j text u))
    (λ (u : length text ≤ 0). lines_none (suc k) text (omega arith) ∙ sym (lines_none (suc j) text (omega arith)))
    (lt_or_le 0 (length text))

times_same : (k j : ℕ) (text : List ℕ) → length text ≤ k → length text ≤ j → times_of k text ≡ times_of j text
times_same zero j text h g = times_none zero text (omega arith) ∙ sym (times_none j text (omega arith))
times_same (suc k) zero text h g = times_none (suc k) text (omega arith) ∙ sym (times_none zero text (omega arith))
times_same (suc k) (suc j) text h g =
    ⊎_elim
    (λ (u : 0 < length text).
    let less = length-drop (line_length text) text in
    times_some k text u
    ∙ ap (λ (r : List ℕ). time_of text ∷ r) (times_same k j (drop (line_length text) text) (omega arith) (omega arith))
    ∙ sym (times_some j text u))
    (λ (u : length text ≤ 0). times_none (suc k) text (omega arith) ∙ sym (times_none (suc j) text (omega arith)))
    (lt_or_le 0 (length text))

-- what is left from a place on
abbrev pub fine_from : List ℕ → ℕ → Bool
fine_from text at = lines_fine (length text) (drop at text)

abbrev pub times_from : List ℕ → ℕ → List ℕ
times_from text at = times_of (length text) (drop at text)

module _ (text : List ℕ) (at : ℕ) where
  pub from_end : length text ≤ at → (fine_from text at ≡ true) × (times_from text at ≡ [])
  from_end h =
      let e : length (drop at text) ≡ 0 = length-drop at text ∙ (omega arith) in
      (lines_none (length text) (drop at text) e, times_none (length text) (drop at text) e)

  module _ (h : at < length text) where
    full : suc (length text - 1) ≡ length text
    full = omega arith

    here : 0 < length (drop at text)
    here = omega (arith, length-drop at text)

    pub from_step : (end : ℕ) → end ≡ at + line_length (drop at text)
        → (fine_from text at ≡ (line_fine (drop at text) && fine_from text end)) × (times_from text at ≡ time_of (drop at text) ∷ times_from text end)
    from_step end e =
        let rest : drop (line_length (drop at text)) (drop at text) ≡ drop end text = drop-drop (line_length (drop at text)) at text
        ∙ ap (λ (k : ℕ). drop k text) (sym e) in
        let few : length (drop end text) ≤ length text - 1 = omega (arith, length-drop end text) in
        let few' : length (drop end text) ≤ length text = omega (arith, length-drop end text) in (
          ap (λ (k : ℕ). lines_fine k (drop at text)) (sym full)
              ∙ lines_some (length text - 1) (drop at text) here
              ∙ ap (λ (r : List ℕ). line_fine (drop at text) && lines_fine (length text - 1) r) rest
              ∙ ap (λ (b : Bool). line_fine (drop at text) && b) (lines_same (length text - 1) (length text) (drop end text) few few'),
          ap (λ (k : ℕ). times_of k (drop at text)) (sym full)
              ∙ times_some (length text - 1) (drop at text) here
              ∙ ap (λ (r : List ℕ). time_of (drop at text) ∷ times_of (length text - 1) r) rest
              ∙ ap (λ (r : List ℕ). time_of (drop at text) ∷ r) (times_same (length text - 1) (length text) (drop end text) few few'),
        )

    -- a line that is not of the form
    pub from_fails : line_fine (drop at text) ≡ false → fine_from text at ≡ false
    from_fails e = (from_step (at + line_length (drop at text)) refl).0 ∙ ap (λ (b : Bool). b && fine_from text (at + line_length (drop at text))) e

    pub from-holds : (end : ℕ) → end ≡ at + line_length (drop at text) → line_fine (drop at text) ≡ true → fine_from text at ≡ fine_from text end
    from-holds end k e = (from_step end k).0 ∙ ap (λ (b : Bool). b && fine_from text end) e

    -- where all from here on are of the form, the next one is
    pub from_line : fine_from text at ≡ true → line_fine (drop at text) ≡ true
    from_line e = and_left (line_fine (drop at text)) _ (sym (from_step (at + line_length (drop at text)) refl).0 ∙ e)
