-- Numbers in decimal, both ways: `decimal n` are digits without a needless zero that stand for n, and digits without a needless zero are
-- the decimal of the number that they stand for. Assumes nothing.
use mathlib.Core.Path.{◌≡◌, refl, sym, ap, ◌∙◌}
use mathlib.Core.Bool.{true, false, not}
use mathlib.Core.List.{List, [], ◌∷◌, ◌++◌, append-nil}
use mathlib.Core.Logic.{⊎_elim}
use Prim.Native.Nat.{ℕ, zero, suc, ◌+◌, ◌-◌, ◌*◌, ◌/◌, ◌%◌, ◌≤◌, ◌<◌}
use native.Mathlib.Omega.{arith}
use lib.Dec.{eqb, leb}
use lib.ListN.{length, get_or, length-append, get_or-append}
use lib.Seq.{append_snoc}
use borrow.Author.Tests.{lt-ltb, le-ltb, leb-true, ne_eqb, eqb-false, not-true}
use Rattle.numbers.specs.Lists.{every}
use Rattle.numbers.proofs.Tests.{lt_or_le, and_left, and_right, true_not_false}
use Rattle.numbers.proofs.Everys.{every_append}
use Rattle.texts.specs.Decimals.{digit_of, decimal_within, decimal, is_digit, plain, number_from}
use Rattle.texts.proofs.Texts.{digit_in, plain_several}

-- ---- how a number is written

written_small : (f n : ℕ) → n < 10 → decimal_within f n ≡ digit_of n ∷ []
unfolding decimal_within
written_small zero n h = refl
written_small (suc f) n h = rw (lt-ltb n 10 h)

written_large : (f n : ℕ) → 10 ≤ n → decimal_within (suc f) n ≡ decimal_within f (n / 10) ++ (digit_of (n % 10) ∷ [])
unfolding decimal_within
written_large f n h = rw (le-ltb n 10 h)

-- more room for digits changes nothing
written_same : (f g n : ℕ) → n ≤ f → n ≤ g → decimal_within f n ≡ decimal_within g n
written_same zero g n h k = written_small zero n (omega arith) ∙ sym (written_small g n (omega arith))
written_same (suc f) zero n h k = written_small (suc f) n (omega arith) ∙ sym (written_small zero n (omega arith))
written_same (suc f) (suc g) n h k =
    ⊎_elim
    (λ (u : n < 10). written_small (suc f) n u ∙ sym (written_small (suc g) n u))
    (λ (u : 10 ≤ n). written_large f n u
    ∙ ap (λ (r : List ℕ). r ++ (digit_of (n % 10) ∷ [])) (written_same f g (n / 10) (omega arith) (omega arith))
    ∙ sym (written_large g n u))
    (lt_or_le n 10)

pub decimal_small : (n : ℕ) → n < 10 → decimal n ≡ digit_of n ∷ []
unfolding decimal
decimal_small n h = written_small n n h

-- one digit more
pub decimal-more : (v d : ℕ) → 0 < v → d < 10 → decimal (v * 10 + d) ≡ decimal v ++ (digit_of d ∷ [])
unfolding decimal
decimal-more v d h k =
    let n = v * 10 + d in
    let q : n / 10 ≡ v = omega arith in
    let r : n % 10 ≡ d = omega arith in
    written_same n (suc n) n (omega arith) (omega arith)
    ∙ written_large n n (omega arith)
    ∙ ap (λ (a : ℕ). decimal_within n a ++ (digit_of (n % 10) ∷ [])) q
    ∙ ap (λ (a : ℕ). decimal_within n v ++ (digit_of a ∷ [])) r
    ∙ ap (λ (a : List ℕ). a ++ (digit_of d ∷ [])) (written_same n v v (omega arith) (omega arith))

-- ---- digits are the decimal of their number

digit_low_end : (x : ℕ) → is_digit x ≡ true → 48 ≤ x
digit_low_end x e = leb-true 48 x (and_left (leb 48 x) _ e)

digit_high_end : (x : ℕ) → is_digit x ≡ true → x ≤ 57
digit_high_end x e = leb-true x 57 (and_right (leb 48 x) _ e)

digit_back : (x : ℕ) → is_digit x ≡ true → digit_of (x - 48) ≡ x
digit_back x e = omega (arith, digit_low_end x e)

first_back : (x : ℕ) → is_digit x ≡ true → digit_of (0 * 10 + (x - 48)) ≡ x
first_back x e = omega (arith, digit_low_end x e)

decimal-behind : (ds : List ℕ) (v : ℕ) → 0 < v → every is_digit ds ≡ true → decimal (number_from v ds) ≡ decimal v ++ ds
unfolding number_from every
decimal-behind [] v h e = sym (append-nil (decimal v))
decimal-behind (x ∷ xs) v h e =
    let a : is_digit x ≡ true = and_left (is_digit x) _ e in
    let low : 48 ≤ x = digit_low_end x a in
    let high : x ≤ 57 = digit_high_end x a in
    decimal-behind xs (v * 10 + (x - 48)) (omega arith) (and_right (is_digit x) _ e)
    ∙ ap (λ (r : List ℕ). r ++ xs) (decimal-more v (x - 48) h (omega arith))
    ∙ ap (λ (y : ℕ). decimal v ++ (y ∷ []) ++ xs) (digit_back x a)
    ∙ append_snoc (decimal v) x xs

pub decimal-number : (ds : List ℕ) → plain ds ≡ true → every is_digit ds ≡ true → decimal (number_from 0 ds) ≡ ds
unfolding number_from every plain
decimal-number [] p e = true_not_false false p refl
decimal-number (x ∷ []) p e =
    let a : is_digit x ≡ true = and_left (is_digit x) _ e in
    let high : x ≤ 57 = digit_high_end x a in
    decimal_small (0 * 10 + (x - 48)) (omega arith) ∙ ap (λ (y : ℕ). y ∷ []) (first_back x a)
decimal-number (x ∷ y ∷ ys) p e =
    let a : is_digit x ≡ true = and_left (is_digit x) _ e in
    let low : 48 ≤ x = digit_low_end x a in
    let high : x ≤ 57 = digit_high_end x a in
    let other : x ≡ 48 → ⊥ = eqb-false x 48 (not-true (eqb x 48) p) in
    decimal-behind (y ∷ ys) (0 * 10 + (x - 48)) (positive x low other) (and_right (is_digit x) _ e)
    ∙ ap (λ (r : List ℕ). r ++ (y ∷ ys)) (decimal_small (0 * 10 + (x - 48)) (omega arith) ∙ ap (λ (y : ℕ). y ∷ []) (first_back x a))
  where
    positive : (x : ℕ) → 48 ≤ x → (x ≡ 48 → ⊥) → 0 < 0 * 10 + (x - 48)
    positive x h k = omega arith

-- ---- and a decimal is digits that stand for its number

number-last : (ds : List ℕ) (v x : ℕ) → number_from v (ds ++ (x ∷ [])) ≡ number_from v ds * 10 + (x - 48)
unfolding number_from
number-last [] v x = refl
number-last (d ∷ ds) v x = number-last ds (v * 10 + (d - 48)) x

-- what is known of the digits of n; that the first is not 0 where n is not is what keeps them plain when one more follows
record Good (n : ℕ) (ds : List ℕ) : Type 0 where
  number : number_from 0 ds ≡ n
  digits : every is_digit ds ≡ true
  some : 0 < length ds
  first : 0 < n → eqb (get_or ds 0 0) 48 ≡ false
  plain-is : plain ds ≡ true

good_small : (n : ℕ) → n < 10 → Good n (digit_of n ∷ [])
unfolding number_from every plain
good_small n h =
    record {
      number = omega arith;
      digits = rw (digit_in (48 + n) (omega arith) (omega arith));
      some = omega arith;
      first = λ k. ne_eqb (48 + n) 48 (λ e. omega arith);
      plain-is = refl;
    }

good_more : (n : ℕ) (ds : List ℕ) → 10 ≤ n → Good (n / 10) ds → Good n (ds ++ (digit_of (n % 10) ∷ []))
unfolding every
good_more n ds h g =
    let d = digit_of (n % 10) in
    let top : eqb (get_or (ds ++ (d ∷ [])) 0 0) 48 ≡ false = ap (λ (x : ℕ). eqb x 48) (get_or-append ds (d ∷ []) 0 0 g.some) ∙ g.first (omega arith) in
    let long : length (ds ++ (d ∷ [])) ≡ length ds + 1 = length-append ds (d ∷ []) in
    let some = g.some in
    record {
      number = number-last ds 0 d ∙ ap (λ (v : ℕ). v * 10 + (d - 48)) g.number ∙ (omega arith);
      digits = every_append is_digit ds (d ∷ []) g.digits (rw (digit_in (48 + n % 10) (omega arith) (omega arith)));
      some = omega arith;
      first = λ k. top;
      plain-is = plain_several (ds ++ (d ∷ [])) (omega arith) ∙ ap not top;
    }

good_written : (f n : ℕ) → n ≤ f → Good n (decimal_within f n)
good_written zero n h = rw (written_small zero n (omega arith)) (good_small n (omega arith))
good_written (suc f) n h =
    ⊎_elim
    (λ (u : n < 10). rw (written_small (suc f) n u) (good_small n u))
    (λ (u : 10 ≤ n). rw (written_large f n u) (good_more n (decimal_within f (n / 10)) u (good_written f (n / 10) (omega arith))))
    (lt_or_le n 10)

module _ (n : ℕ) where
  pub decimal-is : number_from 0 (decimal n) ≡ n
  unfolding decimal
  decimal-is = (good_written n n (omega arith)).number

  pub decimal_digits : every is_digit (decimal n) ≡ true
  unfolding decimal
  decimal_digits = (good_written n n (omega arith)).digits

  pub decimal-plain : plain (decimal n) ≡ true
  unfolding decimal
  decimal-plain = (good_written n n (omega arith)).plain-is

-- ---- the last digit, and how many there are

-- the last digit of a number of several
pub decimal-last : (n : ℕ) → 10 ≤ n → decimal n ≡ decimal (n / 10) ++ (digit_of (n % 10) ∷ [])
decimal-last n h =
    let e : n ≡ n / 10 * 10 + n % 10 = omega arith in
    ap decimal e ∙ decimal-more (n / 10) (n % 10) (omega arith) (omega arith)

pub decimal_longer : (n : ℕ) → 10 ≤ n → length (decimal n) ≡ length (decimal (n / 10)) + 1
decimal_longer n h = ap length (decimal-last n h) ∙ length-append (decimal (n / 10)) (digit_of (n % 10) ∷ [])

-- the digit of a number of one
pub decimal-one : (n : ℕ) → n < 10 → decimal n ≡ digit_of (n % 10) ∷ []
decimal-one n h =
    let e : n ≡ n % 10 = omega arith in
    decimal_small n h ∙ ap (λ (d : ℕ). digit_of d ∷ []) e

-- numbers below b have at most k digits, so those below 10·b at most one more
tenfold : (b k : ℕ) → ((n : ℕ) → n < b → length (decimal n) ≤ k) → (n : ℕ) → n < b * 10 → length (decimal n) ≤ k + 1
tenfold b k below n h =
    ⊎_elim
    (λ (u : n < 10). omega (arith, ap length (decimal-one n u)))
    (λ (u : 10 ≤ n). omega (arith, decimal_longer n u, below (n / 10) (omega arith)))
    (lt_or_le n 10)

one_digit : (n : ℕ) → n < 10 → length (decimal n) ≤ 1
one_digit n h = omega (arith, ap length (decimal-one n h))

five_digits : (n : ℕ) → n < 100000 → length (decimal n) ≤ 5
five_digits = tenfold 10000 4 (tenfold 1000 3 (tenfold 100 2 (tenfold 10 1 one_digit)))

pub nine_digits : (n : ℕ) → n < 1000000000 → length (decimal n) ≤ 9
nine_digits = tenfold 100000000 8 (tenfold 10000000 7 (tenfold 1000000 6 (tenfold 100000 5 five_digits)))

-- ten digits are enough below 2 ^ 32
pub ten_digits : (n : ℕ) → n < 4294967296 → length (decimal n) ≤ 10
ten_digits n h = tenfold 1000000000 9 nine_digits n (omega arith)
