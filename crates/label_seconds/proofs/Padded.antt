-- Digits with zeros in front: so many, and they stand for their number. Assumes nothing.
use mathlib.Core.Path.{◌≡◌, refl, sym, ap, ◌∙◌}
use mathlib.Core.Bool.{true}
use mathlib.Core.List.{List, [], ◌∷◌, ◌++◌, append-nil}
use Prim.Native.Nat.{ℕ, zero, suc, ◌+◌, ◌-◌, ◌*◌, ◌/◌, ◌%◌, ◌≤◌, ◌<◌}
use native.Mathlib.Omega.{arith}
use lib.Dec.{leb}
use lib.ListN.{length, length-append}
use lib.Seq.{append_snoc}
use borrow.Author.Tests.{leb-true}
use Rattle.numbers.specs.Lists.{every}
use Rattle.numbers.proofs.Tests.{and_left, and_right}
use Rattle.numbers.proofs.Everys.{every_append}
use Rattle.texts.specs.Decimals.{digit_of, is_digit, number_from}
use Rattle.texts.proofs.Texts.{digit_in}
use Rattle.label_seconds.specs.Seconds.{padded}

digit_low_end : (x : ℕ) → is_digit x ≡ true → 48 ≤ x
digit_low_end x e = leb-true 48 x (and_left (leb 48 x) _ e)

pub digit_high_end : (x : ℕ) → is_digit x ≡ true → x ≤ 57
digit_high_end x e = leb-true x 57 (and_right (leb 48 x) _ e)

number-last : (ds : List ℕ) (v x : ℕ) → number_from v (ds ++ (x ∷ [])) ≡ number_from v ds * 10 + (x - 48)
unfolding number_from
number-last [] v x = refl
number-last (d ∷ ds) v x = number-last ds (v * 10 + (d - 48)) x

-- ten to the k
unfoldable pub tens : ℕ → ℕ
tens zero = 1
tens (suc k) = tens k * 10

pub padded-length : (k n : ℕ) → length (padded k n) ≡ k
unfolding padded
padded-length zero n = refl
padded-length (suc k) n = length-append (padded k (n / 10)) (digit_of (n % 10) ∷ []) ∙ ap (λ (j : ℕ). j + 1) (padded-length k (n / 10)) ∙ (omega arith)

pub padded_digits : (k n : ℕ) → every is_digit (padded k n) ≡ true
unfolding padded every
padded_digits zero n = refl
padded_digits (suc k) n =
    every_append is_digit (padded k (n / 10)) (digit_of (n % 10) ∷ []) (padded_digits k (n / 10)) (rw (digit_in (48 + n % 10) (omega arith) (omega arith)))

pub padded-is : (k n : ℕ) → n < tens k → number_from 0 (padded k n) ≡ n
unfolding padded number_from tens
padded-is zero n h = omega arith
padded-is (suc k) n h =
    number-last (padded k (n / 10)) 0 (digit_of (n % 10))
    ∙ ap (λ (v : ℕ). v * 10 + (digit_of (n % 10) - 48)) (padded-is k (n / 10) (omega arith))
    ∙ (omega arith)

padded-behind : (ds : List ℕ) (m v : ℕ) → every is_digit ds ≡ true → padded (m + length ds) (number_from v ds) ≡ padded m v ++ ds
unfolding number_from every padded
padded-behind [] m v e = let z : m + 0 ≡ m = omega arith in ap (λ (k : ℕ). padded k v) z ∙ sym (append-nil (padded m v))
padded-behind (x ∷ xs) m v e =
    let a : is_digit x ≡ true = and_left (is_digit x) _ e in
    let low : 48 ≤ x = digit_low_end x a in
    let high : x ≤ 57 = digit_high_end x a in
    let w = v * 10 + (x - 48) in
    let z : m + suc (length xs) ≡ suc m + length xs = omega arith in
    let q : w / 10 ≡ v = omega arith in
    let r : digit_of (w % 10) ≡ x = omega arith in
    ap (λ (k : ℕ). padded k (number_from w xs)) z
    ∙ padded-behind xs (suc m) w (and_right (is_digit x) _ e)
    ∙ ap (λ (y : ℕ). (padded m y ++ (digit_of (w % 10) ∷ [])) ++ xs) q
    ∙ ap (λ (y : ℕ). (padded m v ++ (y ∷ [])) ++ xs) r
    ∙ append_snoc (padded m v) x xs

pub padded-number : (ds : List ℕ) → every is_digit ds ≡ true → padded (length ds) (number_from 0 ds) ≡ ds
unfolding padded
padded-number ds e = let z : 0 + length ds ≡ length ds = omega arith in ap (λ (k : ℕ). padded k (number_from 0 ds)) (sym z) ∙ padded-behind ds 0 0 e
