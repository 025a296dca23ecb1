-- How a reader goes along a text: what each definition says of the text from a place on, where that place is in the text and where it is
-- past its end. Assumes nothing.
use mathlib.Core.Path.{◌≡◌, refl, sym, ap, ◌∙◌}
use mathlib.Core.Bool.{Bool, true, false, ◌&&◌, not}
use mathlib.Core.List.{List, [], ◌∷◌, ◌++◌, append-nil}
use Prim.Native.Nat.{ℕ, suc, ◌+◌, ◌-◌, ◌*◌, ◌≤◌, ◌<◌, min}
use native.Mathlib.Nat.{not-suc-le-zero}
use native.Mathlib.Numerals.{add-one}
use native.Mathlib.Omega.{arith}
use lib.Dec.{eqb}
use lib.ListN.{length, get_or, take, drop, drop_of_length-le}
use lib.Pointwise.{pointwise}
use lib.Seq.{drop-cons, drop-length}
use borrow.Author.Tests.{not-true, not-false, lt-leb, le-leb, eqb-true, eq-eqb}
use Rattle.std.specs.List.{prefix_len}
use Rattle.std.proofs.lemmas.List.Sums.{take_while-cons}
use Rattle.std.proofs.lemmas.Bool.Decides.{nat_tests}
use Rattle.numbers.proofs.Tests.{and_left, and_right, and_both, and_assoc, true_not_false}
use Rattle.numbers.specs.Rounded.{pick}
use Rattle.texts.specs.Texts.{starts, exactly}
use Rattle.texts.specs.Decimals.{is_digit, leading, plain, number_from}

-- ---- the bytes that a text starts with

eqb-flip : (a b : ℕ) → eqb a b ≡ eqb b a
eqb-flip a b = grind (arith, nat_tests)

-- as `starts_with` tests it
pub starts-tested : (bytes text : List ℕ) → pointwise eqb bytes (take (length bytes) text) ≡ starts bytes text
unfolding starts
starts-tested [] text = refl
starts-tested (w ∷ ws) [] = refl
starts-tested (w ∷ ws) (x ∷ xs) = rw (eqb-flip w x) (ap (λ (t : Bool). eqb x w && t) (starts-tested ws xs))

-- a text is as long as what it starts with, and is that and then the rest
pub starts-fits : (bytes text : List ℕ) → starts bytes text ≡ true → length bytes ≤ length text
unfolding starts
starts-fits [] text e = omega arith
starts-fits (w ∷ ws) [] e = true_not_false false e refl
starts-fits (w ∷ ws) (x ∷ xs) e = let h = starts-fits ws xs (and_right (eqb x w) _ e) in omega arith

pub starts_split : (bytes text : List ℕ) → starts bytes text ≡ true → text ≡ bytes ++ drop (length bytes) text
unfolding starts
starts_split [] text e = refl
starts_split (w ∷ ws) [] e = true_not_false false e refl
starts_split (w ∷ ws) (x ∷ xs) e =
    ap (λ (a : ℕ). a ∷ xs) (eqb-true x w (and_left (eqb x w) _ e))
    ∙ ap (λ (r : List ℕ). w ∷ r) (starts_split ws xs (and_right (eqb x w) _ e))

pub starts_own : (bytes text : List ℕ) → starts bytes (bytes ++ text) ≡ true
unfolding starts
starts_own [] text = refl
starts_own (w ∷ ws) text = rw (eq-eqb w w refl) (starts_own ws text)

-- pieces, one behind the other
pub starts-append : (a b text : List ℕ) → starts (a ++ b) text ≡ (starts a text && starts b (drop (length a) text))
unfolding starts
starts-append [] b text = refl
starts-append (w ∷ ws) b [] = refl
starts-append (w ∷ ws) b (x ∷ xs) =
    ap (λ (t : Bool). eqb x w && t) (starts-append ws b xs) ∙ sym (and_assoc (eqb x w) (starts ws xs) (starts b (drop (length ws) xs)))

-- nothing else
pub exactly-is : (bytes text : List ℕ) → exactly bytes text ≡ true → text ≡ bytes
unfolding exactly
exactly-is bytes text e =
    let l = eqb-true (length text) (length bytes) (and_left _ (starts bytes text) e) in
    starts_split bytes text (and_right (eqb (length text) (length bytes)) _ e)
    ∙ ap (λ (n : ℕ). bytes ++ drop n text) (sym l)
    ∙ ap (λ (r : List ℕ). bytes ++ r) (drop-length text)
    ∙ append-nil bytes

pub exactly_own : (bytes : List ℕ) → exactly bytes bytes ≡ true
unfolding exactly
exactly_own bytes =
    and_both (eqb (length bytes) (length bytes)) _ (eq-eqb (length bytes) (length bytes) refl)
    (ap (starts bytes) (sym (append-nil bytes)) ∙ starts_own bytes [])

-- ---- digits

pub digit_low : (x : ℕ) → x < 48 → is_digit x ≡ false
digit_low x h = rw (lt-leb 48 x h)

pub digit_high : (x : ℕ) → 57 < x → is_digit x ≡ false
digit_high x h = rw (le-leb 48 x (omega arith), lt-leb x 57 h)

pub digit_in : (x : ℕ) → 48 ≤ x → x ≤ 57 → is_digit x ≡ true
digit_in x h k = rw (le-leb 48 x h, le-leb x 57 k)

pub leading_end : (text : List ℕ) (place : ℕ) → length text ≤ place → leading (drop place text) ≡ []
unfolding leading
leading_end text place h = rw drop_of_length-le

module _ (text : List ℕ) (place : ℕ) (h : place < length text) where
  pub leading_digit : is_digit (get_or text place 0) ≡ true → leading (drop place text) ≡ get_or text place 0 ∷ leading (drop (place + 1) text)
  unfolding leading
  leading_digit e = rw (add-one, drop-cons text place 0 h, e)

  pub leading_other : is_digit (get_or text place 0) ≡ false → leading (drop place text) ≡ []
  unfolding leading
  leading_other e = rw (drop-cons text place 0 h, e)

-- as `take_while` takes them
pub leading-taken : (text : List ℕ) → take (prefix_len is_digit text) text ≡ leading text
unfolding leading
leading-taken [] = refl
leading-taken (x ∷ xs) = grind (arith, take_while-cons is_digit x xs, leading-taken xs)

-- the digits are no longer than the text, and the first of them is its first byte
pub leading-fits : (text : List ℕ) → length (leading text) ≤ length text
unfolding leading
leading-fits [] = omega arith
leading-fits (x ∷ xs) = go (is_digit x) (leading-fits xs)
  where
    go : (b : Bool) → length (leading xs) ≤ length xs → length (pick b (x ∷ leading xs) []) ≤ suc (length xs)
    go true h = omega arith
    go false h = omega arith

pub leading-first : (text : List ℕ) → 0 < length (leading text) → get_or (leading text) 0 0 ≡ get_or text 0 0
unfolding leading
leading-first [] h = absurd (not-suc-le-zero h)
leading-first (x ∷ xs) h = go (is_digit x) h
  where
    go : (b : Bool) → 0 < length (pick b (x ∷ leading xs) []) → get_or (pick b (x ∷ leading xs) []) 0 0 ≡ x
    go true h = refl
    go false h = absurd (not-suc-le-zero h)

-- ---- needless zeros

pub plain-none : (ds : List ℕ) → length ds ≡ 0 → plain ds ≡ false
unfolding plain
plain-none [] h = refl
plain-none (x ∷ xs) h = absurd (omega arith)

pub plain-one : (ds : List ℕ) → length ds ≡ 1 → plain ds ≡ true
unfolding plain
plain-one [] h = absurd (omega arith)
plain-one (x ∷ []) h = refl
plain-one (x ∷ y ∷ ys) h = absurd (omega arith)

pub plain_several : (ds : List ℕ) → 2 ≤ length ds → plain ds ≡ not (eqb (get_or ds 0 0) 48)
unfolding plain
plain_several [] h = absurd (omega arith)
plain_several (x ∷ []) h = absurd (omega arith)
plain_several (x ∷ y ∷ ys) h = refl

-- ---- numbers, held to `most`

held_step : (most v w d : ℕ) → min v most ≡ min w most → min (v * 10 + d) most ≡ min (w * 10 + d) most
held_step most v w d e = omega arith

held_number_lem : (most : ℕ) (ds : List ℕ) (v w : ℕ) → min v most ≡ min w most → min (number_from v ds) most ≡ min (number_from w ds) most
unfolding number_from
held_number_lem most [] v w e = e
held_number_lem most (x ∷ xs) v w e = held_number_lem most xs _ _ (held_step most v w (x - 48) e)

-- one digit of a number that is held
pub held_more : (most x v : ℕ) (ds : List ℕ) → min (number_from v (x ∷ ds)) most ≡ min (number_from (min (v * 10 + (x - 48)) most) ds) most
unfolding number_from
held_more most x v ds = held_number_lem most ds _ _ (omega arith)

pub held_none : (most v : ℕ) → v ≤ most → min (number_from v []) most ≡ v
unfolding number_from
held_none most v h = omega arith

-- ---- an answer that the code turns over, `if !stands(..)`

pub fails : (answer test : Bool) → answer ≡ test → not answer ≡ true → test ≡ false
fails answer test e h = sym e ∙ not-true answer h

pub holds : (answer test : Bool) → answer ≡ test → not answer ≡ false → test ≡ true
holds answer test e h = sym e ∙ not-false answer h
