-- What is written is read, and what is read was so written. Assumes nothing.
use mathlib.Core.Path.{◌≡◌, refl, sym, ap, ◌∙◌}
use mathlib.Core.Bool.{Bool, true, false}
use mathlib.Core.List.{List, [], ◌∷◌, ◌++◌}
use Prim.Native.Nat.{ℕ}
use lib.ListN.{length, drop}
use lib.Seq.{drop-append_seam}
use Rattle.numbers.specs.Rounded.{pick}
use Rattle.numbers.specs.Lists.{every}
use Rattle.numbers.proofs.Tests.{and_left, and_right, and_both}
use Rattle.texts.specs.Decimals.{decimal, is_digit, leading, behind, plain, number_from}
use Rattle.texts.proofs.Decimals.{decimal-number, decimal_digits}

-- ---- what is written is read, whatever stands behind it that is no digit

pub leading_own : (ds rest : List ℕ) → every is_digit ds ≡ true → leading rest ≡ [] → leading (ds ++ rest) ≡ ds
unfolding leading every
leading_own [] rest e h = h
leading_own (d ∷ ds) rest e h =
    rw (and_left (is_digit d) (every is_digit ds) e) (ap (λ (r : List ℕ). d ∷ r) (leading_own ds rest (and_right (is_digit d) _ e) h))

pub leading_stop : (x : ℕ) (xs : List ℕ) → is_digit x ≡ false → leading (x ∷ xs) ≡ []
unfolding leading
leading_stop x xs h = rw h

module _ (n : ℕ) (rest : List ℕ) (h : leading rest ≡ []) where
  pub leading-decimal : leading (decimal n ++ rest) ≡ decimal n
  leading-decimal = leading_own (decimal n) rest (decimal_digits n) h

  pub behind-decimal : behind (decimal n ++ rest) ≡ rest
  unfolding behind
  behind-decimal = ap (λ (ds : List ℕ). drop (length ds) (decimal n ++ rest)) leading-decimal ∙ drop-append_seam (decimal n) rest

-- ---- what is read was so written

pub leading_digits : (text : List ℕ) → every is_digit (leading text) ≡ true
unfolding leading every
leading_digits [] = refl
leading_digits (x ∷ xs) = go (is_digit x) refl (leading_digits xs)
  where
    go : (b : Bool) → is_digit x ≡ b → every is_digit (leading xs) ≡ true → every is_digit (pick b (x ∷ leading xs) []) ≡ true
    go true e h = and_both (is_digit x) _ e h
    go false e h = refl

pub leading_split : (text : List ℕ) → text ≡ leading text ++ behind text
unfolding leading behind
leading_split [] = refl
leading_split (x ∷ xs) = go (is_digit x) (leading_split xs)
  where
    go : (b : Bool) → xs ≡ leading xs ++ drop (length (leading xs)) xs
        → x ∷ xs ≡ pick b (x ∷ leading xs) [] ++ drop (length (pick b (x ∷ leading xs) [])) (x ∷ xs)
    go true h = ap (λ (r : List ℕ). x ∷ r) h
    go false h = refl

-- a plain number is a decimal, and then what stands behind it
pub number_split : (text : List ℕ) → plain (leading text) ≡ true → text ≡ decimal (number_from 0 (leading text)) ++ behind text
number_split text p = leading_split text ∙ ap (λ (r : List ℕ). r ++ behind text) (sym (decimal-number (leading text) p (leading_digits text)))
