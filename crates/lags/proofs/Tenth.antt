-- Document 01: "the float test agrees with 10·|lag-a| > a on every pair of lags from 1 to 45,000". The difference of two whole numbers is
-- exact, so the quotient is one rounding of |lag-a| / a. Rounding is monotone: where 10·|lag-a| <= a the quotient is at most the rounding
-- of 1/10, which is the float 0.10; where 10·|lag-a| > a the fraction is at least the next float, since a is small. Assumes nothing.
use mathlib.Core.Path.{◌≡◌, refl, sym, ap, ◌∙◌, subst}
use mathlib.Core.Bool.{Bool, true, false, cond, true≢false}
use Prim.Native.Nat.{ℕ, zero, suc, ◌+◌, ◌-◌, ◌*◌, ◌^◌, ◌≤◌, ◌<◌}
use native.Mathlib.Nat.{mul_comm, mul-one, mul-pos, mul-sub, mul_assoc, mul_left_comm, mul-le-mul_right, le_of_eq, lt_of_lt_of_le, zero-lt-suc}
use native.Mathlib.Omega.{arith}
use borrow.Author.Tests.{ltb-true, ltb-false, le-ltb}
use lib.Dec.{T, ltb, eqb, eqb→eq, lit<}
use lib.Ieee.{Float, nan, inf, fin, binary64, up, down, round, sum, add, sub, div, neg, lt, le, of_bits}
use lib.Ieee.Bits.{is_true}
use lib.Ieee.Fits.{down_pos}
use lib.Ieee.Back.{round_whole}
use lib.Ieee.Exact.{HasValue}
use lib.Ieee.Order.{round_mono}
use lib.Ieee.Scale.{round_same}
use Rattle.numbers.specs.Rounded.{◌⊖◌, ◌⊘◌, real, pick}
use Rattle.numbers.specs.Limits.{most_period}
use Rattle.sizes.proofs.Sizes.{real-value}
use Rattle.sizes.proofs.Order.{lt_then_le, le_back, lt_real}
use Rattle.lags.specs.Pairs.{lag_distance, tenth, apart}

-- |lag - a|
abbrev pub gap : ℕ → ℕ → ℕ
gap lag a = (lag - a) + (a - lag)

-- ---- the difference of two whole numbers is exact

-- a * C - b * C over C
sum-whole : (a b A B C : ℕ) → 0 < C → A ≡ a * C → B ≡ b * C → b ≤ a → a ≤ 2 ^ 53 → HasValue (sum binary64 false A true B C) false (a - b) 1
unfolding sum
sum-whole a b A B C h p q l k =
    let ordered : B ≤ A = rw (p, q) (mul-le-mul_right C l) in
    let short : a - b ≤ 2 ^ 53 = omega arith in
    let times : (a - b) * C ≡ A - B = mul_comm (a - b) C ∙ mul-sub C a b ∙ rw (p, q, mul_comm C a, mul_comm C b) in
    rw (le-ltb A B ordered)
    (subst (λ (x : Float). HasValue x false (a - b) 1) (round_same binary64 false (a - b) 1 (A - B) C (zero-lt-suc 0) h
    (times ∙ sym (mul-one (A - B)))) (round_whole binary64 false (a - b) short))

less_whole : (x y : Float) (a b : ℕ) → b ≤ a → a ≤ 2 ^ 53 → HasValue x false a 1 → HasValue y false b 1 → HasValue (x ⊖ y) false (a - b) 1
unfolding sub add neg
less_whole nan y a b l k p q = absurd p
less_whole (inf s) y a b l k p q = absurd p
less_whole (fin true m e) y a b l k p q = absurd (true≢false p.0)
less_whole (fin false m e) nan a b l k p q = absurd q
less_whole (fin false m e) (inf t) a b l k p q = absurd q
less_whole (fin false m e) (fin true n d) a b l k p q = absurd (true≢false q.0)
less_whole (fin false m e) (fin false n d) a b l k p q =
    sum-whole a b (m * up e * down d) (n * up d * down e) (down e * down d) (mul-pos (down_pos e) (down_pos d))
    (ap (λ (z : ℕ). z * down d) (sym (mul-one (m * up e)) ∙ p.1) ∙ mul_assoc a (down e) (down d))
    (ap (λ (z : ℕ). z * down e) (sym (mul-one (n * up d)) ∙ q.1) ∙ mul_assoc b (down d) (down e) ∙ ap (λ (z : ℕ). b * z) (mul_comm (down d) (down e)))
    l k

distance-whole : (lag a : ℕ) → lag ≤ 2 ^ 53 → a ≤ 2 ^ 53 → HasValue (lag_distance (real lag) (real a)) false (gap lag a) 1
distance-whole lag a h k = rw (lt_real lag a h k) (go (ltb lag a) refl)
  where
    go : (b : Bool) → ltb lag a ≡ b → HasValue (pick b (real a ⊖ real lag) (real lag ⊖ real a)) false (gap lag a) 1
    go true e =
        let l : lag ≤ a = omega (arith, ltb-true lag a e) in
        let g : a - lag ≡ gap lag a = omega arith in
        subst (λ (n : ℕ). HasValue (real a ⊖ real lag) false n 1) g (less_whole (real a) (real lag) a lag l k (real-value a k) (real-value lag h))
    go false e =
        let l : a ≤ lag = ltb-false lag a e in
        let g : lag - a ≡ gap lag a = omega arith in
        subst (λ (n : ℕ). HasValue (real lag ⊖ real a) false n 1) g (less_whole (real lag) (real a) lag a l h (real-value lag h) (real-value a k))

-- ---- the quotient of two whole numbers is one rounding

over-whole : (x y : Float) (a b : ℕ) → 0 < b → HasValue x false a 1 → HasValue y false b 1 → x ⊘ y ≡ round binary64 false a b
unfolding div
over-whole nan y a b B p q = absurd p
over-whole (inf s) y a b B p q = absurd p
over-whole (fin true m e) y a b B p q = absurd (true≢false p.0)
over-whole (fin false m e) nan a b B p q = absurd q
over-whole (fin false m e) (inf t) a b B p q = absurd q
over-whole (fin false m e) (fin true n d) a b B p q = absurd (true≢false q.0)
over-whole (fin false m e) (fin false n d) a b B p q = go (eqb n 0) (eqb→eq n 0)
  where
    divisor : 0 < n * up d
    divisor = lt_of_lt_of_le (mul-pos B (down_pos d)) (le_of_eq (sym q.1 ∙ mul-one (n * up d)))

    gone : (n u : ℕ) → 0 < n * u → n ≡ 0 → ⊥
    gone zero u h z = omega arith
    gone (suc n) u h z = omega arith

    turn : (a e d b : ℕ) → a * e * d * b ≡ a * (b * d * e)
    turn a e d b = simp (mul_assoc, mul_comm, mul_left_comm)

    cross : m * up e * down d * b ≡ a * (n * up d * down e)
    cross =
        ap (λ (z : ℕ). z * down d * b) (sym (mul-one (m * up e)) ∙ p.1)
        ∙ turn a (down e) (down d) b
        ∙ ap (λ (z : ℕ). a * (z * down e)) (sym q.1 ∙ mul-one (n * up d))

    go : (t : Bool) → (T t → n ≡ 0) → cond t (cond (eqb m 0) nan (inf false)) (round binary64 false (m * up e * down d) (n * up d * down e)) ≡ round
        binary64 false a b
    go true z = absurd (gone n (up d) divisor (z tt))
    go false z = round_same binary64 false (m * up e * down d) (n * up d * down e) a b (mul-pos divisor (down_pos e)) B cross

-- ---- the comparison

-- 0.10 is the rounding of 1 / 10, and the next float is 3602879701896398 / 2 ^ 55
tenth-is : round binary64 false 1 10 ≡ tenth
unfolding round of_bits
tenth-is = refl

tenth_next : lt tenth (round binary64 false 3602879701896398 36028797018963968) ≡ true
unfolding round lt of_bits
tenth_next = refl

tenth_round : (d a : ℕ) → 0 < a → a ≤ most_period → lt tenth (round binary64 false d a) ≡ ltb a (10 * d)
tenth_round d a h k = go (ltb a (10 * d)) refl
  where
    go : (b : Bool) → ltb a (10 * d) ≡ b → lt tenth (round binary64 false d a) ≡ b
    go true e =
        let g : 3602879701896398 * a ≤ d * 36028797018963968 = omega (arith, ltb-true a (10 * d) e) in
        lt_then_le tenth (round binary64 false 3602879701896398 36028797018963968) (round binary64 false d a) tenth_next
        (is_true _ (round_mono binary64 3602879701896398 36028797018963968 d a (lit< tt) h g))
    go false e =
        let g : d * 10 ≤ 1 * a = omega (arith, ltb-false a (10 * d) e) in
        le_back (round binary64 false d a) tenth (is_true _ (subst (λ (x : Float). T (le (round binary64 false d a) x)) tenth-is
        (round_mono binary64 d a 1 10 h (lit< tt) g)))

-- the float test is the whole-number test
pub apart-is : (lag a : ℕ) → 1 ≤ a → lag ≤ most_period → a ≤ most_period → apart lag a ≡ ltb a (10 * gap lag a)
unfolding apart
apart-is lag a h l k =
    let L : lag ≤ 2 ^ 53 = omega arith in
    let K : a ≤ 2 ^ 53 = omega arith in
    ap (lt tenth) (over-whole (lag_distance (real lag) (real a)) (real a) (gap lag a) a h (distance-whole lag a L K) (real-value a K))
    ∙ tenth_round (gap lag a) a h k
