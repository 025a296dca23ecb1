-- Where nothing is rounded: a value that the format holds is its own rounding, so a sum with +0, a product or a quotient by 1 and
-- a difference from itself are exact. A value is known by its sign and its size. Assumes nothing.
use mathlib.Core.Path.{◌≡◌, refl, sym, ap, ◌∙◌, subst}
use mathlib.Core.Bool.{Bool, true, false, ◌&&◌, cond}
use Prim.Native.Nat.{ℕ, zero, suc, ◌+◌, ◌-◌, ◌*◌, ◌/◌, ◌%◌, ◌^◌, ◌≤◌, ◌<◌}
use native.Mathlib.Nat.{
  le_trans,
  le_of_eq,
  lt_of_lt_of_le,
  lt_of_le_of_lt,
  lt_irrefl,
  lt_of_not-le,
  le_of_suc-le-suc,
  mul_comm,
  mul_assoc,
  mul_left_comm,
  mul_right_comm,
  mul-le-mul_right,
  mul-lt-mul_of_pos_right,
  lt_of_mul-lt-mul_right,
  mul-pos,
  mul-one,
  one-mul,
  zero-mul,
  zero-lt-suc,
  sub_self,
  eq_of_mul-eq-mul_right,
}
use native.Mathlib.Omega.{arith}
use lib.IntN.{ℤ, pos, negsuc}
use lib.Dec.{T, ltb, leb, eqb, ltb→lt, leb→le, eqb→eq}
use lib.Pow.{pow-add, pow_pos, pow-lt}
use lib.Ieee.{Float, nan, inf, fin, Format, prec, emax, low, up, down, size, hid, top, round, neg, sum, add, sub, mul, div, le, fits, to_bits, of_bits}
use lib.Ieee.Bits.{of_bits-to_bits}
use lib.Ieee.Fits.{up_pos, down_pos, and_l, and_r, round-fits}
use lib.Ieee.Exact.{HasValue, round_exact}
use lib.Ieee.Nearest.{div_same}
use lib.Ieee.Scale.{finite, round_same}
use borrow.Author.Tests.{ltb-true}
use Rattle.numbers.specs.Rounded.{nought, bits}
use Rattle.sizes.specs.Sizes.{is_plus, Plus}
use Rattle.sizes.proofs.Order.{le_self}
use Rattle.sizes.proofs.Signs.{nought-is, plus_from_nought, plus_not_nan}
use Rattle.sizes.proofs.Monotone.{round_nought, unlike_plus, add_swap, add_mono_right}

-- ---- a value is known by its sign and its size

bits_of : (f : Format) (s : Bool) (n : ℕ) → ℕ
bits_of f s n = cond s (top f) 0 + (size n - prec f) * hid f + n / 2 ^ (size n - prec f)

to_bits_is : (f : Format) (s : Bool) (m : ℕ) (e : ℤ) → to_bits f (fin s m e) ≡ bits_of f s (m * up e * 2 ^ low f / down e)
unfolding to_bits bits_of
to_bits_is f s m e = refl

-- x / p and y / q are both a / c
same_units : (l x y p q a c : ℕ) → 0 < c → 0 < p → 0 < q → x * c ≡ a * p → y * c ≡ a * q → x * l / p ≡ y * l / q
same_units l x y p q a c C P Q h k =
    div_same (x * l) p (y * l) q P Q
    (eq_of_mul-eq-mul_right c C (x * l * q) (y * l * p)
    (simp (mul_assoc, mul_comm) (simp (mul_assoc, mul_comm, mul_left_comm) at
    (ap (λ (z : ℕ). z * (l * q)) h ∙ swap a p q l ∙ ap (λ (z : ℕ). z * (l * p)) (sym k)))))
  where
    swap : (a p q l : ℕ) → a * p * (l * q) ≡ a * q * (l * p)
    swap a p q l = simp (mul_assoc, mul_comm, mul_left_comm)

pub value_unique : (f : Format) (x y : Float) (s : Bool) (a c : ℕ) → 0 < c → T (fits f x) → T (fits f y) → HasValue x s a c → HasValue y s a c → x ≡ y
value_unique f nan y s a c C p q v w = absurd v
value_unique f (inf t) y s a c C p q v w = absurd v
value_unique f (fin t m e) nan s a c C p q v w = absurd w
value_unique f (fin t m e) (inf u) s a c C p q v w = absurd w
value_unique f (fin t m e) (fin u n d) s a c C p q v w =
    sym (of_bits-to_bits f (fin t m e) p)
    ∙ ap (of_bits f) (to_bits_is f t m e ∙ ap (λ (b : Bool). bits_of f b (m * up e * 2 ^ low f / down e)) (v.0 ∙ sym w.0)
    ∙ ap (bits_of f u) (same_units (2 ^ low f) (m * up e) (n * up d) (down e) (down d) a c C (down_pos e) (down_pos d) v.1 w.1) ∙ sym (to_bits_is f u n d))
    ∙ of_bits-to_bits f (fin u n d) q

-- ---- a value that fits is its own rounding

abbrev Short : Format → ℕ → ℤ → Type 0
Short f m e = (m < 2 ^ prec f) × (down e ≤ 2 ^ low f) × (m * up e < 2 ^ suc (emax f) * down e)

pow_le_back : (a l : ℕ) → 2 ^ a ≤ 2 ^ l → a ≤ l
pow_le_back a l h = le_of_suc-le-suc (lt_of_not-le (λ (g : suc l ≤ a). lt_irrefl (2 ^ l) (lt_of_lt_of_le (pow-lt g) h)))

back : (l k : ℕ) → k ≤ l → l - k + k ≡ l
back l k h = omega arith

exact_at : (f : Format) (s : Bool) (m : ℕ) (e : ℤ) → Short f m e → HasValue (round f s (m * up e) (down e)) s (m * up e) (down e)
exact_at f s m (pos k) h =
    let l = low f in
    let e : m * 2 ^ k * 2 ^ l ≡ m * 2 ^ (k + l) = mul_assoc m (2 ^ k) (2 ^ l) ∙ ap (λ (z : ℕ). m * z) (sym (pow-add 2 k l)) in
    round_exact f s (m * 2 ^ k) 1 m (k + l) (zero-lt-suc 0) h.0
    (lt_of_le_of_lt (le_of_eq (sym e)) (lt_of_lt_of_le (mul-lt-mul_of_pos_right h.2 (pow_pos l))
    (le_of_eq (ap (λ (z : ℕ). z * 2 ^ l) (mul-one (2 ^ suc (emax f))) ∙ mul_comm (2 ^ suc (emax f)) (2 ^ l) ∙ sym (pow-add 2 l (suc (emax f)))))))
    (e ∙ sym (mul-one (m * 2 ^ (k + l))))
exact_at f s m (negsuc k) h =
    let l = low f in
    let j = l - suc k in
    let g : suc k ≤ l = pow_le_back (suc k) l h.1 in
    let p : 2 ^ j * 2 ^ suc k ≡ 2 ^ l = sym (pow-add 2 j (suc k)) ∙ ap (λ (z : ℕ). 2 ^ z) (back l (suc k) g) in
    let e : m * 1 * 2 ^ l ≡ m * 2 ^ j * 2 ^ suc k = ap (λ (z : ℕ). z * 2 ^ l) (mul-one m) ∙ ap (λ (z : ℕ). m * z) (sym p)
    ∙ sym (mul_assoc m (2 ^ j) (2 ^ suc k)) in
    round_exact f s (m * 1) (2 ^ suc k) m j (pow_pos (suc k)) h.0
    (lt_of_mul-lt-mul_right (2 ^ suc k) (lt_of_le_of_lt (le_of_eq (sym e)) (lt_of_lt_of_le (mul-lt-mul_of_pos_right h.2 (pow_pos l))
    (le_of_eq (mul_right_comm (2 ^ suc (emax f)) (2 ^ suc k) (2 ^ l)
    ∙ ap (λ (z : ℕ). z * 2 ^ suc k) (mul_comm (2 ^ suc (emax f)) (2 ^ l) ∙ sym (pow-add 2 l (suc (emax f)))))))))
    e

zero_short : (f : Format) (e : ℤ) → up e * down e ≡ 1 → Short f 0 e
zero_short f e h = (
  pow_pos (prec f),
  le_trans (le_trans (le_trans (le_of_eq (sym (one-mul (down e)))) (mul-le-mul_right (down e) (up_pos e))) (le_of_eq h)) (pow_pos (low f)),
  lt_of_le_of_lt (le_of_eq (zero-mul (up e))) (mul-pos (pow_pos (suc (emax f))) (down_pos e)),
)

fits_short : (f : Format) (s : Bool) (m : ℕ) (e : ℤ) → T (fits f (fin s m e)) → Short f m e
unfolding fits
fits_short f s zero e t = zero_short f e (eqb→eq (up e * down e) 1 t)
fits_short f s (suc m) e t =
    let A = eqb (suc m % 2) 1 in
    let B = ltb (suc m) (2 ^ prec f) in
    let C = leb (down e) (2 ^ low f) in
    let D = ltb (suc m * up e) (2 ^ suc (emax f) * down e) in
    let abc = and_l (A && B && C) D t in (
      ltb→lt (suc m) (2 ^ prec f) (and_r A B (and_l (A && B) C abc)),
      leb→le (down e) (2 ^ low f) (and_r (A && B) C abc),
      ltb→lt (suc m * up e)
          (2 ^ suc (emax f) * down e) (and_r (A && B && C) D t),
    )

round_self : (f : Format) (s : Bool) (m : ℕ) (e : ℤ) → T (fits f (fin s m e)) → round f s (m * up e) (down e) ≡ fin s m e
round_self f s m e t =
    value_unique f (round f s (m * up e) (down e)) (fin s m e) s (m * up e) (down e) (down_pos e) (round-fits f s (m * up e) (down e)) t
    (exact_at f s m e (fits_short f s m e t)) (refl, refl)

-- a / c rounds to the value that fits and is a / c
pub round_value : (f : Format) (x : Float) (s : Bool) (a c : ℕ) → 0 < c → T (fits f x) → HasValue x s a c → round f s a c ≡ x
round_value f nan s a c C t v = absurd v
round_value f (inf u) s a c C t v = absurd v
round_value f (fin u m e) s a c C t v =
    round_same f s a c (m * up e) (down e) C (down_pos e) (sym v.1) ∙ ap (λ (b : Bool). round f b (m * up e) (down e)) (sym v.0) ∙ round_self f u m e t

-- ---- a sum with +0

plus_nought : (f : Format) (x : Float) → T (fits f x) → T (is_plus x) → add f (fin false 0 (pos 0)) x ≡ x
unfolding add sum is_plus
plus_nought f nan t p = refl
plus_nought f (inf s) t p = refl
plus_nought f (fin true m e) t p = absurd p
plus_nought f (fin false m e) t p =
    round_value f (fin false m e) false (0 * 1 * down e + m * up e * 1) (1 * down e) (mul-pos (zero-lt-suc 0) (down_pos e)) t
    (refl, ap (λ (z : ℕ). m * up e * z) (one-mul (down e)) ∙ ap (λ (z : ℕ). z * down e) (sym (zero_plus (m * up e) (down e))))
  where
    zero_plus : (u d : ℕ) → 0 * 1 * d + u * 1 ≡ u
    zero_plus u d = omega arith

-- -0 and +0 make +0
pub nought-add : {x : Float} (f : Format) → T (fits f x) → Plus x → add f nought x ≡ x
nought-add {x} f t p = ap (λ (z : Float). add f z x) nought-is ∙ plus_nought f x t p.sign

pub add-nought : {x : Float} (f : Format) → T (fits f x) → Plus x → add f x nought ≡ x
add-nought {x} f t p = add_swap f x nought ∙ nought-add f t p

-- so a sum of what is not negative grows
grows : (f : Format) (x y : Float) → T (fits f x) → Plus x → Plus y → T (is_plus x) → T (is_plus y) → le x (add f x y) ≡ true
unfolding is_plus
grows f nan y t P Q p q = absurd p
grows f (inf true) y t P Q p q = absurd p
grows f (inf false) nan t P Q p q = absurd q
grows f (inf false) (inf true) t P Q p q = absurd q
grows f (inf false) (inf false) t P Q p q = unfold add in le_self (inf false) (plus_not_nan P)
grows f (inf false) (fin u n d) t P Q p q = unfold add in le_self (inf false) (plus_not_nan P)
grows f (fin s m e) y t P Q p q = subst (λ (z : Float). le z (add f (fin s m e) y) ≡ true) (add-nought f t P)
    (add_mono_right f (fin s m e) nought y tt (plus_from_nought Q))

pub add_grows : {x y : Float} (f : Format) → T (fits f x) → Plus x → Plus y → le x (add f x y) ≡ true
add_grows {x} {y} f t p q = grows f x y t p q p.sign q.sign

-- ---- a difference from itself

self_of : (f : Format) (x : Float) → T (finite x) → sub f x x ≡ fin false 0 (pos 0)
unfolding sub add neg sum
self_of f nan h = absurd h
self_of f (inf s) h = absurd h
self_of f (fin true m e) h = go (ltb (m * up e * down e) (m * up e * down e)) refl
  where
    go : (b : Bool) → ltb (m * up e * down e) (m * up e * down e) ≡ b
        → cond b (round f false (m * up e * down e - m * up e * down e) (down e * down e))
        (round f b (m * up e * down e - m * up e * down e) (down e * down e)) ≡ fin false 0 (pos 0)
    go true g = absurd (lt_irrefl (m * up e * down e) (ltb-true (m * up e * down e) (m * up e * down e) g))
    go false g = ap (λ (z : ℕ). round f false z (down e * down e)) (sub_self (m * up e * down e))
        ∙ round_nought f false (down e * down e) (mul-pos (down_pos e) (down_pos e))
self_of f (fin false m e) h = go (ltb (m * up e * down e) (m * up e * down e)) refl
  where
    go : (b : Bool) → ltb (m * up e * down e) (m * up e * down e) ≡ b
        → cond b (round f true (m * up e * down e - m * up e * down e) (down e * down e))
        (round f false (m * up e * down e - m * up e * down e) (down e * down e)) ≡ fin false 0 (pos 0)
    go true g = absurd (lt_irrefl (m * up e * down e) (ltb-true (m * up e * down e) (m * up e * down e) g))
    go false g = ap (λ (z : ℕ). round f false z (down e * down e)) (sub_self (m * up e * down e))
        ∙ round_nought f false (down e * down e) (mul-pos (down_pos e) (down_pos e))

pub sub_self_nought : (f : Format) (x : Float) → T (finite x) → sub f x x ≡ nought
sub_self_nought f x h = self_of f x h ∙ sym nought-is

-- ---- a product and a quotient by 1

mul_of : (f : Format) (x : Float) → T (fits f x) → mul f x (fin false 1 (pos 0)) ≡ x
unfolding mul
mul_of f nan t = refl
mul_of f (inf true) t = refl
mul_of f (inf false) t = refl
mul_of f (fin s m e) t =
    ap (λ (b : Bool). round f b (m * up e * (1 * 1)) (down e * 1)) (unlike_plus s)
    ∙ round_value f (fin s m e) s (m * up e * (1 * 1)) (down e * 1) (mul-pos (down_pos e) (zero-lt-suc 0)) t (refl, by_one (m * up e) (down e))
  where
    by_one : (u d : ℕ) → u * (d * 1) ≡ u * (1 * 1) * d
    by_one u d = omega arith

div_of : (f : Format) (x : Float) → T (fits f x) → div f x (fin false 1 (pos 0)) ≡ x
unfolding div
div_of f nan t = refl
div_of f (inf true) t = refl
div_of f (inf false) t = refl
div_of f (fin s m e) t =
    ap (λ (b : Bool). round f b (m * up e * 1) (1 * 1 * down e)) (unlike_plus s)
    ∙ round_value f (fin s m e) s (m * up e * 1) (1 * 1 * down e) (mul-pos (zero-lt-suc 0) (down_pos e)) t (refl, by_one (m * up e) (down e))
  where
    by_one : (u d : ℕ) → u * (1 * 1 * d) ≡ u * 1 * d
    by_one u d = omega arith

one-is : bits 0x3FF0_0000_0000_0000 ≡ fin false 1 (pos 0)
unfolding of_bits
one-is = refl

pub mul_by_one : (f : Format) (x : Float) → T (fits f x) → mul f x (bits 0x3FF0_0000_0000_0000) ≡ x
mul_by_one f x t = ap (mul f x) one-is ∙ mul_of f x t

pub div_by_one : (f : Format) (x : Float) → T (fits f x) → div f x (bits 0x3FF0_0000_0000_0000) ≡ x
div_by_one f x t = ap (div f x) one-is ∙ div_of f x t
