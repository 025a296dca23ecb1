-- A finite float above zero and its pattern: the pattern lies below the infinity's, and `size_of` it is the float's size. Assumes nothing.
use mathlib.Core.Path.{◌≡◌, refl, sym, ap, ◌∙◌}
use mathlib.Core.Bool.{Bool, true, false, not, cond}
use Prim.Native.Nat.{ℕ, zero, suc, ◌+◌, ◌-◌, ◌*◌, ◌/◌, ◌%◌, ◌^◌, ◌≤◌, ◌<◌}
use native.Mathlib.Nat.{le_trans, le_of_eq, mul_assoc, mul_left_comm, mul_right_comm, mul-le-mul_right, le_of_mul-le-mul_right}
use native.Mathlib.Decide.{dec_lt}
use native.Mathlib.Omega.{arith}
use lib.Dec.{T, eqb, lit<}
use lib.Ieee.{Float, nan, inf, fin, binary64, up, down, lt, odd, of_fields, of_bits, to_bits, is_nan, fits}
use lib.Ieee.Bits.{of_bits-to_bits, to_bits-of_bits}
use lib.Ieee.Exact.{HasValue, odd_sign}
use lib.Ieee.Fits.{down_pos}
use lib.Ieee.Scale.{finite}
use lib.IntN.{pos}
use lib.Pow.{pow-add}
use borrow.Author.Tests.{ne_eqb, lt-ltb, le-leb, lt-leb}
use Rattle.numbers.specs.Rounded.{bits, nought}
use Rattle.numbers.proofs.Tests.{true_not_false}
use Rattle.sizes.specs.Sizes.{AtMost, AtLeast}
use Rattle.sizes.proofs.Order.{lt_values}
use Rattle.sizes.proofs.Signs.{nought-is}
use Rattle.roots.specs.Roots.{infinite, size_of, square_of}
use Rattle.roots.proofs.Nearest.{size-at, size_small}
use Rattle.roots.proofs.Unique.{size_mono}

-- ---- the size is the float's
fields_value : (x t : ℕ) → x < 2047 → t < 2 ^ 52 → HasValue (of_fields binary64 false x t) false (size_of (x * 2 ^ 52 + t)) (2 ^ 1074)
unfolding of_fields
fields_value zero t h k =
    let e : 0 * 2 ^ 52 + t ≡ t = omega arith in
    let z : t * 2 ^ 0 ≡ t = omega arith in
    rw (e, size_small t k) (rw z at (odd_sign 53 false t 0 1074))
fields_value (suc x) t h k =
    let u = size-at (suc x * 2 ^ 52 + t) (2 ^ 52 + t) x (omega arith) (omega arith) (omega arith) in
    rw (u, ne_eqb (suc x) 2047 (omega arith)) (odd_sign 53 false (2 ^ 52 + t) x 1074)

pub size-value : (n : ℕ) → n < infinite → HasValue (bits n) false (size_of n) (2 ^ 1074)
unfolding of_bits
size-value n h =
    let a : n % 2 ^ 63 ≡ n = omega arith in
    let e : n / 2 ^ 52 * 2 ^ 52 + n % 2 ^ 52 ≡ n = omega arith in
    rw (lt-leb (2 ^ 63) n (omega arith), a) (rw e at (fields_value (n / 2 ^ 52) (n % 2 ^ 52) (omega arith) (omega arith)))

value_no_nan : (x : Float) (s : Bool) (a c : ℕ) → HasValue x s a c → T (not (is_nan x))
unfolding is_nan
value_no_nan nan s a c v = v
value_no_nan (inf t) s a c v = tt
value_no_nan (fin t m e) s a c v = tt

-- one pattern for each such float
pub bits_back : (n : ℕ) → n < infinite → to_bits binary64 (bits n) ≡ n
bits_back n h = to_bits-of_bits binary64 n (omega arith) (value_no_nan _ _ _ _ (size-value n h))

-- ---- the pattern is below the infinity's
not_finite : (s : Bool) (t : ℕ) → T (finite (of_fields binary64 s 2047 t)) → ⊥
unfolding of_fields
not_finite s t = go (eqb t 0)
  where
    go : (b : Bool) → T (finite (cond b (inf s) nan)) → ⊥
    go true h = h
    go false h = h

odd_minus : (d q k l : ℕ) → lt nought (odd d true q k l) ≡ false
unfolding lt odd of_bits
odd_minus d zero k l = refl
odd_minus d (suc q) k l = refl

not-above : (x t : ℕ) → lt nought (of_fields binary64 true x t) ≡ false
unfolding lt of_fields of_bits
not-above zero t = odd_minus 53 t 0 1074
not-above (suc x) t = go (eqb (suc x) 2047) (eqb t 0)
  where
    go : (a b : Bool) → lt nought (cond a (cond b (inf true) nan) (odd 53 true (2 ^ 52 + t) x 1074)) ≡ false
    go true true = refl
    go true false = refl
    go false b = odd_minus 53 (2 ^ 52 + t) x 1074

under : (n : ℕ) → lt nought (bits n) ≡ true → T (finite (bits n)) → n < infinite
unfolding of_bits
under n h f = go (dec_lt n infinite) (dec_lt n (2 ^ 63))
  where
    go : Dec (n < infinite) → Dec (n < 2 ^ 63) → n < infinite
    go (yes l) k = l
    go (no l) (yes k) =
        let e : n % 2 ^ 63 / 2 ^ 52 ≡ 2047 = omega arith in
        absurd (not_finite _ (n % 2 ^ 52) (rw (lt-leb (2 ^ 63) n k, e) at f))
    go (no l) (no k) = true_not_false _ (rw (le-leb (2 ^ 63) n (omega arith)) at h) (not-above (n % 2 ^ 63 / 2 ^ 52) (n % 2 ^ 52))

pub bits-under : (x : Float) → T (fits binary64 x) → lt nought x ≡ true → T (finite x) → to_bits binary64 x < infinite
bits-under x f h l = let e = of_bits-to_bits binary64 x f in under (to_bits binary64 x) (rw e h) (rw e l)

pub bits-value : (x : Float) → T (fits binary64 x) → lt nought x ≡ true → T (finite x) → HasValue x false (size_of (to_bits binary64 x)) (2 ^ 1074)
bits-value x f h l = rw (of_bits-to_bits binary64 x f) at (size-value (to_bits binary64 x) (bits-under x f h l))

-- ---- sizes: some, of a power of two, and the square
pub some_size : (n : ℕ) → 0 < n → 1 ≤ size_of n
some_size n h = le_trans (le_of_eq (sym (size_small 1 (lit< tt)))) (size_mono 1 n h)

-- 2 ^ k and 2 ^ -k
pub power_size : (k : ℕ) → size_of ((k + 1023) * 2 ^ 52) ≡ 2 ^ k * 2 ^ 1074
power_size k =
    size-at ((k + 1023) * 2 ^ 52) (2 ^ 52) (k + 1022) (omega arith) (omega arith) (omega arith)
    ∙ rw (pow-add 2 k 1022) (mul_left_comm (2 ^ 52) (2 ^ k) (2 ^ 1022))

pub part_size : (k : ℕ) → k ≤ 1022 → size_of ((1023 - k) * 2 ^ 52) * 2 ^ k ≡ 2 ^ 1074
part_size k h =
    let e : 1022 - k + k ≡ 1022 = omega arith in
    let a = size-at ((1023 - k) * 2 ^ 52) (2 ^ 52) (1022 - k) (omega arith) (omega arith) (omega arith) in
    rw a (mul_assoc (2 ^ 52) (2 ^ (1022 - k)) (2 ^ k) ∙ rw (← pow-add 2 (1022 - k) k, e) refl)

pub square-is : (n : ℕ) → square_of n ≡ size_of n * 2 ^ 1074
unfolding square_of
square-is n = refl

-- ---- a float that is known as a fraction
pub value-finite : (y : Float) (s : Bool) (a c : ℕ) → HasValue y s a c → T (finite y)
value-finite nan s a c v = v
value-finite (inf t) s a c v = v
value-finite (fin t m e) s a c v = tt

pub value-above : (y : Float) (a c : ℕ) → 0 < a → 0 < c → HasValue y false a c → lt nought y ≡ true
value-above y a c A C v = rw nought-is (lt_values (fin false 0 (pos 0)) y 0 1 a c (lit< tt) C (refl, refl) v ∙ lt-ltb (0 * c) (a * 1) (omega arith))

pub most-value : (N : ℕ) (x : Float) (a c : ℕ) → HasValue x false a c → AtMost N x → a ≤ N * c
most-value N nan a c v h = absurd v
most-value N (inf s) a c v h = absurd v
most-value N (fin s m e) a c v h =
    le_of_mul-le-mul_right (le_trans (le_of_eq (sym v.1)) (le_trans (mul-le-mul_right c h.size) (le_of_eq (mul_right_comm N (down e) c)))) (down_pos e)

pub least-value : (p q : ℕ) (x : Float) (a c : ℕ) → HasValue x false a c → AtLeast p q x → p * c ≤ q * a
least-value p q nan a c v h = absurd v
least-value p q (inf s) a c v h = absurd v
least-value p q (fin s m e) a c v h =
    le_of_mul-le-mul_right
    (le_trans (le_of_eq (mul_right_comm p c (down e)))
    (le_trans (mul-le-mul_right c h.size) (le_of_eq (mul_assoc q (m * up e) c ∙ ap (λ (z : ℕ). q * z) v.1 ∙ sym (mul_assoc q a (down e))))))
    (down_pos e)
