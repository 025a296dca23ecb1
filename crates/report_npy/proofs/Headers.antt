-- What the reader of headers accepts is exactly what is written: `header_read` and `header_written`. Assumes nothing.
use mathlib.Core.Path.{◌≡◌, refl, sym, ap, ◌∙◌}
use mathlib.Core.Bool.{Bool, true, false, ◌&&◌}
use mathlib.Core.List.{List, [], ◌∷◌, ◌++◌}
use Prim.Native.Nat.{ℕ, zero, suc, ◌+◌}
use native.Mathlib.Omega.{arith}
use lib.Dec.{eqb}
use lib.ListN.{length, drop, replicate}
use lib.Seq.{drop-drop}
use borrow.Author.Tests.{eqb-true}
use Rattle.numbers.specs.Rounded.{pick}
use Rattle.numbers.proofs.Tests.{and_left, and_right, and_both, and-held, and_failed, true_not_false, pick_true, pick-false}
use Rattle.std.specs.Prelude.{Option, Some, None}
use Rattle.report_npy.specs.declared.Shape.{Shape}
use Rattle.texts.specs.Texts.{starts}
use Rattle.texts.specs.Decimals.{decimal, leading, behind, plain, number_from}
use Rattle.texts.proofs.Texts.{starts_split, starts_own}
use Rattle.texts.proofs.Decimals.{decimal-is, decimal-plain}
use Rattle.texts.proofs.Readings.{leading_stop, leading-decimal, behind-decimal, number_split}
use Rattle.report_npy.specs.Header.{front, comma, closing, header_text, held_number, shape_of, ended, columns_of, rows_of, header_of}

-- ---- the reader's answers, test by test

module _ (n : ℕ) (text : List ℕ) where
  columns-shape : plain (leading text) ≡ true → starts closing (behind text) ≡ true → ended (drop 4 (behind text)) ≡ true
      → columns_of n text ≡ Some (shape_of (held_number n) (held_number (number_from 0 (leading text))))
  unfolding columns_of
  columns-shape a b c = pick_true _ _ _ (and_both _ _ a (and_both _ _ b c))

  columns-malformed : plain (leading text) && (starts closing (behind text) && ended (drop 4 (behind text))) ≡ false → columns_of n text ≡ None
  unfolding columns_of
  columns-malformed e = pick-false _ _ _ e

module _ (text : List ℕ) where
  rows-columns : plain (leading text) ≡ true → starts comma (behind text) ≡ true
      → rows_of text ≡ columns_of (number_from 0 (leading text)) (drop 2 (behind text))
  unfolding rows_of
  rows-columns a b = pick_true _ _ _ (and_both _ _ a b)

  rows-malformed : plain (leading text) && starts comma (behind text) ≡ false → rows_of text ≡ None
  unfolding rows_of
  rows-malformed e = pick-false _ _ _ e

  header_rows : starts front text ≡ true → header_of text ≡ rows_of (drop 51 text)
  unfolding header_of
  header_rows e = pick_true _ _ _ e

  pub header_malformed : starts front text ≡ false → header_of text ≡ None
  unfolding header_of
  header_malformed e = pick-false _ _ _ e

-- ---- the same by places in the text, as the code goes

-- what stands behind the digits from `at` on, whose end is known
module _ (text : List ℕ) (at end : ℕ) (e : end ≡ at + length (leading (drop at text))) where
  behind-at : behind (drop at text) ≡ drop end text
  unfolding behind
  behind-at = drop-drop (length (leading (drop at text))) at text ∙ ap (λ (k : ℕ). drop k text) (sym e)

  behind_more : (k : ℕ) → drop k (behind (drop at text)) ≡ drop (end + k) text
  behind_more k = ap (drop k) behind-at ∙ drop-drop k end text

module _ (text : List ℕ) (s : starts front text ≡ true) where
  pub rows_at_plain : plain (leading (drop 51 text)) ≡ false → header_of text ≡ None
  rows_at_plain p = header_rows text s ∙ rows-malformed (drop 51 text) (sym (and_failed _ _ p) ∙ p)

  module _ (end : ℕ) (e : end ≡ 51 + length (leading (drop 51 text))) (p : plain (leading (drop 51 text)) ≡ true) where
    pub rows_at_comma : starts comma (drop end text) ≡ false → header_of text ≡ None
    rows_at_comma h = header_rows text s ∙ rows-malformed (drop 51 text) (sym (and-held _ _ p) ∙ ap (starts comma) (behind-at text 51 end e) ∙ h)

    pub rows_at : starts comma (drop end text) ≡ true → header_of text ≡ columns_of (number_from 0 (leading (drop 51 text))) (drop (end + 2) text)
    rows_at h =
        header_rows text s
        ∙ rows-columns (drop 51 text) p (ap (starts comma) (behind-at text 51 end e) ∙ h)
        ∙ ap (columns_of (number_from 0 (leading (drop 51 text)))) (behind_more text 51 end e 2)

module _ (n : ℕ) (text : List ℕ) (at : ℕ) where
  pub columns_at_plain : plain (leading (drop at text)) ≡ false → columns_of n (drop at text) ≡ None
  columns_at_plain p = columns-malformed n (drop at text) (sym (and_failed _ _ p) ∙ p)

  module _ (end : ℕ) (e : end ≡ at + length (leading (drop at text))) (p : plain (leading (drop at text)) ≡ true) where
    pub columns_at_closing : starts closing (drop end text) ≡ false → columns_of n (drop at text) ≡ None
    columns_at_closing h =
        let k : starts closing (behind (drop at text)) ≡ false = ap (starts closing) (behind-at text at end e) ∙ h in
        columns-malformed n (drop at text) (sym (and-held _ _ p) ∙ sym (and_failed _ _ k) ∙ k)

    module _ (h : starts closing (drop end text) ≡ true) where
      closed : starts closing (behind (drop at text)) ≡ true
      closed = ap (starts closing) (behind-at text at end e) ∙ h

      pub columns_at_end : ended (drop (end + 4) text) ≡ false → columns_of n (drop at text) ≡ None
      columns_at_end k =
          columns-malformed n (drop at text) (sym (and-held _ _ p) ∙ sym (and-held _ _ closed) ∙ ap ended (behind_more text at end e 4) ∙ k)

      pub columns-at : ended (drop (end + 4) text) ≡ true → columns_of n (drop at text) ≡ Some (shape_of (held_number n)
          (held_number (number_from 0 (leading (drop at text)))))
      columns-at k = columns-shape n (drop at text) p closed (ap ended (behind_more text at end e 4) ∙ k)

-- ---- what is written is read

ended_own : (k : ℕ) → ended (replicate k 32 ++ (10 ∷ [])) ≡ true
unfolding ended
ended_own zero = refl
ended_own (suc k) = ended_own k

columns_read : (n b k : ℕ) → columns_of n (decimal b ++ (closing ++ (replicate k 32 ++ (10 ∷ [])))) ≡ Some (shape_of (held_number n) (held_number b))
columns_read n b k =
    let t : List ℕ = replicate k 32 ++ (10 ∷ []) in
    let first = leading-decimal b (closing ++ t) (leading_stop 41 (44 ∷ 32 ∷ 125 ∷ t) refl) in
    let rest = behind-decimal b (closing ++ t) (leading_stop 41 (44 ∷ 32 ∷ 125 ∷ t) refl) in
    columns-shape n (decimal b ++ (closing ++ t))
    (ap plain first ∙ decimal-plain b)
    (ap (starts closing) rest ∙ starts_own closing t)
    (ap (λ (r : List ℕ). ended (drop 4 r)) rest ∙ ended_own k)
    ∙ ap (λ (ds : List ℕ). Some (shape_of (held_number n) (held_number (number_from 0 ds)))) first
    ∙ ap (λ (m : ℕ). Some (shape_of (held_number n) (held_number m))) (decimal-is b)

rows_read : (n b k : ℕ) → rows_of (decimal n ++ (comma ++ (decimal b ++ (closing ++ (replicate k 32 ++ (10 ∷ [])))))) ≡ Some (shape_of (held_number n) (held_number b))
rows_read n b k =
    let t : List ℕ = decimal b ++ (closing ++ (replicate k 32 ++ (10 ∷ []))) in
    let first = leading-decimal n (comma ++ t) (leading_stop 44 (32 ∷ t) refl) in
    let rest = behind-decimal n (comma ++ t) (leading_stop 44 (32 ∷ t) refl) in
    rows-columns (decimal n ++ (comma ++ t)) (ap plain first ∙ decimal-plain n) (ap (starts comma) rest ∙ starts_own comma t)
    ∙ ap (λ (r : List ℕ). columns_of (number_from 0 (leading (decimal n ++ (comma ++ t)))) (drop 2 r)) rest
    ∙ ap (λ (ds : List ℕ). columns_of (number_from 0 ds) t) first
    ∙ ap (λ (m : ℕ). columns_of m t) (decimal-is n)
    ∙ columns_read n b k

-- The header of n rows and b bins is read as that shape, whatever n, b and the number of spaces.
pub header_read : (n b k : ℕ) → header_of (header_text n b k) ≡ Some (shape_of (held_number n) (held_number b))
unfolding header_text
header_read n b k =
    let t : List ℕ = decimal n ++ (comma ++ (decimal b ++ (closing ++ (replicate k 32 ++ (10 ∷ []))))) in
    header_rows (front ++ t) (starts_own front t) ∙ rows_read n b k

-- ---- what is read was written so

no_text : (xs : List ℕ) → length xs ≡ 0 → xs ≡ []
no_text [] e = refl
no_text (x ∷ xs) e = absurd (omega arith)

ended_split : (text : List ℕ) → ended text ≡ true → (k : ℕ) × (text ≡ replicate k 32 ++ (10 ∷ []))
unfolding ended
ended_split [] e = true_not_false false e refl
ended_split (x ∷ xs) e = go (eqb x 32) refl e (ended_split xs)
  where
    go : (b : Bool) → eqb x 32 ≡ b → pick b (ended xs) (eqb x 10 && eqb (length xs) 0) ≡ true
        → (ended xs ≡ true → (k : ℕ) × (xs ≡ replicate k 32 ++ (10 ∷ []))) → (k : ℕ) × (x ∷ xs ≡ replicate k 32 ++ (10 ∷ []))
    go true h e f =
        let w = f e in
        (suc w.0, ap (λ (y : ℕ). y ∷ xs) (eqb-true x 32 h) ∙ ap (λ (r : List ℕ). 32 ∷ r) w.1)
    go false h e f = (
      0,
      ap (λ (y : ℕ). y ∷ xs) (eqb-true x 10 (and_left (eqb x 10) _ e))
          ∙ ap (λ (r : List ℕ). 10 ∷ r) (no_text xs (eqb-true (length xs) 0 (and_right (eqb x 10) _ e))),
    )

-- an answer that is a shape passed its test
shape_passed : (t : Bool) (a : Option Shape) (p q : ℕ) → pick t a None ≡ Some (shape_of p q) → (t ≡ true) × (a ≡ Some (shape_of p q))
shape_passed true a p q e = (refl, e)
shape_passed false a p q e = let z : ◌≡◌ {A = ℕ} 0 1 = cc in absurd (omega arith)

same_shape : (m n p q : ℕ) → Some (shape_of m n) ≡ Some (shape_of p q) → shape_of m n ≡ shape_of p q
same_shape m n p q e = cc

shape-rows : (m n p q : ℕ) → Some (shape_of m n) ≡ Some (shape_of p q) → m ≡ p
shape-rows m n p q e = ap (λ (s : Shape). s.rows) (same_shape m n p q e)

shape-bins : (m n p q : ℕ) → Some (shape_of m n) ≡ Some (shape_of p q) → n ≡ q
shape-bins m n p q e = ap (λ (s : Shape). s.bins) (same_shape m n p q e)

-- a text that is the header of a shape, which is read as p and q
pub record HeaderWritten (text : List ℕ) (p q : ℕ) : Type 0 where
  pub rows : ℕ
  pub bins : ℕ
  pub spaces : ℕ
  pub text_is : text ≡ header_text rows bins spaces
  pub rows-held : p ≡ held_number rows
  pub bins-held : q ≡ held_number bins

record Columns (n : ℕ) (text : List ℕ) (p q : ℕ) : Type 0 where
  bins : ℕ
  spaces : ℕ
  text_is : text ≡ decimal bins ++ (closing ++ (replicate spaces 32 ++ (10 ∷ [])))
  rows-held : p ≡ held_number n
  bins-held : q ≡ held_number bins

columns-written : (n : ℕ) (text : List ℕ) (p q : ℕ) → columns_of n text ≡ Some (shape_of p q) → Columns n text p q
unfolding columns_of
columns-written n text p q e =
    let w = shape_passed (plain (leading text) && (starts closing (behind text) && ended (drop 4 (behind text))))
    (Some (shape_of (held_number n) (held_number (number_from 0 (leading text))))) p q e in
    let good = and_left (plain (leading text)) _ w.0 in
    let rest = and_right (plain (leading text)) _ w.0 in
    let shut = starts_split closing (behind text) (and_left (starts closing (behind text)) _ rest) in
    let end = ended_split (drop 4 (behind text)) (and_right (starts closing (behind text)) _ rest) in
    record {
      bins = number_from 0 (leading text);
      spaces = end.0;
      text_is = number_split text good
          ∙ ap (λ (r : List ℕ). decimal (number_from 0 (leading text)) ++ r) (shut ∙ ap (λ (r : List ℕ). closing ++ r) end.1);
      rows-held = sym (shape-rows _ _ _ _ w.1);
      bins-held = sym (shape-bins _ _ _ _ w.1);
    }

record Rows (text : List ℕ) (p q : ℕ) : Type 0 where
  rows : ℕ
  rest : List ℕ
  text_is : text ≡ decimal rows ++ (comma ++ rest)
  columns : Columns rows rest p q

rows_written : (text : List ℕ) (p q : ℕ) → rows_of text ≡ Some (shape_of p q) → Rows text p q
unfolding rows_of
rows_written text p q e =
    let w = shape_passed (plain (leading text) && starts comma (behind text)) (columns_of (number_from 0 (leading text)) (drop 2 (behind text))) p q e in
    let good = and_left (plain (leading text)) _ w.0 in
    let between = starts_split comma (behind text) (and_right (plain (leading text)) _ w.0) in
    record {
      rows = number_from 0 (leading text);
      rest = drop 2 (behind text);
      text_is = number_split text good ∙ ap (λ (r : List ℕ). decimal (number_from 0 (leading text)) ++ r) between;
      columns = columns-written (number_from 0 (leading text)) (drop 2 (behind text)) p q w.1;
    }

-- Whatever text is read as a shape is the header of that shape, its numbers held to the most.
pub header_written : (text : List ℕ) (p q : ℕ) → header_of text ≡ Some (shape_of p q) → HeaderWritten text p q
unfolding header_of header_text
header_written text p q e =
    let w = shape_passed (starts front text) (rows_of (drop 51 text)) p q e in
    let r = rows_written (drop 51 text) p q w.1 in
    let c = r.columns in
    record {
      rows = r.rows;
      bins = c.bins;
      spaces = c.spaces;
      text_is = starts_split front text w.0
          ∙ ap (λ (t : List ℕ). front ++ t) (r.text_is ∙ ap (λ (t : List ℕ). decimal r.rows ++ (comma ++ t)) c.text_is);
      rows-held = c.rows-held;
      bins-held = c.bins-held;
    }
