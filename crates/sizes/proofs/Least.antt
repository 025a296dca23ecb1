-- Sizes from below: a value that is at least p / q in size stays away from zero, and so does a product of two such values,
-- down to 2 ^ -1074, the smallest value of binary64. Assumes nothing.
use mathlib.Core.Path.{◌≡◌, refl, sym, ap, ◌∙◌, subst}
use mathlib.Core.Bool.{Bool, true, false, ◌&&◌, cond}
use Prim.Native.Nat.{ℕ, zero, suc, ◌*◌, ◌%◌, ◌^◌, ◌≤◌, ◌<◌}
use native.Mathlib.Nat.{
  le_trans,
  le_of_eq,
  mul_comm,
  mul_assoc,
  mul_left_comm,
  mul_right_comm,
  mul-le-mul,
  mul-le-mul_left,
  mul-le-mul_right,
  mul-pos,
  mul-one,
  one-mul,
  le_of_mul-le-mul_right,
  le-mul_of_pos_right,
  pos_of_ne-zero,
  zero-lt-suc,
}
use native.Mathlib.Omega.{arith}
use lib.Dec.{T, ltb, leb, eqb, eqb→eq, lt→ltb, ltb→lt, leb→le, lit<}
use lib.IntN.{pos}
use lib.Pow.{pow_pos}
use lib.Ieee.{Float, nan, inf, fin, Format, binary64, prec, emax, low, up, down, unlike, round, mul, div, lt, fits}
use lib.Ieee.Bits.{is_true}
use lib.Ieee.Fits.{up_pos, down_pos, and_l, and_r}
use lib.Ieee.Exact.{HasValue}
use lib.Ieee.Positive.{first_pos}
use lib.Ieee.Scale.{finite}
use borrow.Author.Tests.{eqb-false}
use Rattle.numbers.specs.Rounded.{◌⊗◌, nought, real}
use Rattle.sizes.specs.Sizes.{size_up_to, size_from, AtMost, AtLeast, is_plus, Plus, HeldAt}
use Rattle.sizes.proofs.Rounds.{round_least}
use Rattle.sizes.proofs.Sizes.{right_above, real-value}
use Rattle.sizes.proofs.Signs.{nought-is, mul_plus}

-- ---- weaker bounds

weaken : (p q p' q' : ℕ) (x : Float) → 0 < q → p' * q ≤ p * q' → size_from p q x → size_from p' q' x
weaken p q p' q' nan Q l h = h
weaken p q p' q' (inf s) Q l h = tt
weaken p q p' q' (fin s m e) Q l h =
    le_of_mul-le-mul_right
    (le_trans (le_of_eq (mul_right_comm p' (down e) q))
    (le_trans (mul-le-mul_right (down e) l)
    (le_trans (le_of_eq (mul_right_comm p q' (down e)))
    (le_trans (mul-le-mul_right q' h) (le_of_eq (regroup q (m * up e) q'))))))
    Q
  where
    regroup : (q y q' : ℕ) → q * y * q' ≡ q' * y * q
    regroup q y q' = simp (mul_assoc, mul_comm, mul_left_comm)

pub least_weaken : {p q : ℕ} {x : Float} (p' q' : ℕ) → 0 < q → p' * q ≤ p * q' → AtLeast p q x → AtLeast p' q' x
least_weaken {p} {q} {x} p' q' Q l h = record { size = weaken p q p' q' x Q l h.size }

-- ---- a value that is known as a fraction, a whole number as a float

from_of_value : (p q a c : ℕ) (s : Bool) (x : Float) → 0 < c → HasValue x s a c → p * c ≤ q * a → size_from p q x
from_of_value p q a c s nan C v h = absurd v
from_of_value p q a c s (inf t) C v h = absurd v
from_of_value p q a c s (fin t m e) C v h =
    le_of_mul-le-mul_right
    (le_trans (le_of_eq (mul_right_comm p (down e) c))
    (le_trans (mul-le-mul_right (down e) h) (le_of_eq (mul_assoc q a (down e) ∙ ap (λ (z : ℕ). q * z) (sym v.1) ∙ sym (mul_assoc q (m * up e) c)))))
    C

pub value-least : {p q : ℕ} {x : Float} (s : Bool) (a c : ℕ) → 0 < c → HasValue x s a c → p * c ≤ q * a → AtLeast p q x
value-least {p} {q} {x} s a c C v h = record { size = from_of_value p q a c s x C v h }

pub real-least : {p q : ℕ} (n : ℕ) → n ≤ 2 ^ 53 → p ≤ q * n → AtLeast p q (real n)
real-least {p} n h l = value-least false n 1 (zero-lt-suc 0) (real-value n h) (le_trans (le_of_eq (mul-one p)) l)

-- ---- away from zero

above-nought : (p q : ℕ) (x : Float) → 0 < p → T (is_plus x) → size_from p q x → T (lt (fin false 0 (pos 0)) x)
unfolding lt is_plus
above-nought p q nan P s h = absurd h
above-nought p q (inf true) P s h = absurd s
above-nought p q (inf false) P s h = tt
above-nought p q (fin true m e) P s h = absurd s
above-nought p q (fin false m e) P s h = lt→ltb (0 * 1 * down e) (m * up e * 1)
    (less (m * up e) (down e) (right_above q (m * up e) (p * down e) (mul-pos P (down_pos e)) h))
  where
    less : (x d : ℕ) → 0 < x → 0 * 1 * d < x * 1
    less x d h = omega arith

-- at least p / q in size, with a plus sign: above 0
pub least_above : {p q : ℕ} {x : Float} → 0 < p → Plus x → AtLeast p q x → lt nought x ≡ true
least_above {p} {q} {x} P s h = is_true (lt nought x) (subst (λ (z : Float). T (lt z x)) (sym nought-is) (above-nought p q x P s.sign h.size))

-- ---- the product

-- an infinity times what is not 0 is an infinity
infinite : (r w n : ℕ) (s : Bool) → 0 < n → size_from r w (cond (eqb n 0) nan (inf s))
infinite r w n s N = go (eqb n 0) (eqb→eq n 0)
  where
    go : (b : Bool) → (T b → n ≡ 0) → size_from r w (cond b nan (inf s))
    go true z = absurd (none n N (z tt))
      where
        none : (n : ℕ) → 0 < n → n ≡ 0 → ⊥
        none n N z = omega arith
    go false z = tt

-- x / e at least p / q, y / d at least p' / q', r / w at most their product
product : (x e y d p q p' q' r w : ℕ) → 0 < p → 0 < p' → p * e ≤ q * x → p' * d ≤ q' * y → r * (q * q') ≤ p * p' * w → r * (e * d) ≤ x * y * w
product x e y d p q p' q' r w P P' h k l =
    le_of_mul-le-mul_right
    (le_trans (le_of_eq (first r e d p p'))
    (le_trans (mul-le-mul_left r (mul-le-mul h k))
    (le_trans (le_of_eq (second r q x q' y))
    (le_trans (mul-le-mul_right (x * y) l) (le_of_eq (third p p' w x y))))))
    (mul-pos P P')
  where
    first : (r e d p p' : ℕ) → r * (e * d) * (p * p') ≡ r * (p * e * (p' * d))
    first r e d p p' = simp (mul_assoc, mul_comm, mul_left_comm)

    second : (r q x q' y : ℕ) → r * (q * x * (q' * y)) ≡ r * (q * q') * (x * y)
    second r q x q' y = simp (mul_assoc, mul_left_comm)

    third : (p p' w x y : ℕ) → p * p' * w * (x * y) ≡ x * y * w * (p * p')
    third p p' w x y = simp (mul_assoc, mul_comm, mul_left_comm)

mul_of : (f : Format) (p q p' q' r w : ℕ) (x y : Float) → 0 < p → 0 < p' → 0 < w → HeldAt f r w → r * (q * q') ≤ p * p' * w → size_from p q x
    → size_from p' q' y → AtLeast r w (mul f x y)
unfolding mul
mul_of f p q p' q' r w nan y P P' W H l h k = absurd h
mul_of f p q p' q' r w (inf s) nan P P' W H l h k = absurd k
mul_of f p q p' q' r w (inf s) (inf t) P P' W H l h k = record { size = tt }
mul_of f p q p' q' r w (inf s) (fin t n d) P P' W H l h k = record {
  size = infinite r w n (unlike s t)
      (first_pos n (up d) (right_above q' (n * up d) (p' * down d) (mul-pos P' (down_pos d)) k));
}
mul_of f p q p' q' r w (fin s m e) nan P P' W H l h k = absurd k
mul_of f p q p' q' r w (fin s m e) (inf t) P P' W H l h k = record {
  size = infinite r w m (unlike s t)
      (first_pos m (up e) (right_above q (m * up e) (p * down e) (mul-pos P (down_pos e)) h));
}
mul_of f p q p' q' r w (fin s m e) (fin t n d) P P' W H l h k =
    round_least (unlike s t) (m * up e * (n * up d)) (down e * down d) (mul-pos (down_pos e) (down_pos d)) W H
    (product (m * up e) (down e) (n * up d) (down d) p q p' q' r w P P' h k l)

-- p / q times p' / q' is at least r / w
pub mul-least : {f : Format} {p q p' q' r w : ℕ} {x y : Float} → 0 < p → 0 < p' → 0 < w → HeldAt f r w → r * (q * q') ≤ p * p' * w → AtLeast p q x
    → AtLeast p' q' y → AtLeast r w (mul f x y)
mul-least {f} {p} {q} {p'} {q'} {r} {w} {x} {y} P P' W H l h k = mul_of f p q p' q' r w x y P P' W H l h.size k.size

smallest : HeldAt binary64 1 (2 ^ 1074)
smallest = record { q = 1; j = 0; few = lit< tt; under = lit< tt; is = refl }

-- down to 2 ^ -1074: as the product of two norms, each at least 2 ^ -537
pub mul-away : {p q p' q' : ℕ} {x y : Float} → 0 < p → 0 < p' → q * q' ≤ p * p' * 2 ^ 1074 → AtLeast p q x → AtLeast p' q' y → AtLeast 1 (2 ^ 1074) (x ⊗ y)
mul-away {p} {q} {p'} {q'} P P' l h k = mul-least P P' (pow_pos 1074) smallest (le_trans (le_of_eq (one-mul (q * q'))) l) h k

-- and above 0 where the signs are plus, or the two are the same
pub mul-above : {p q p' q' : ℕ} {x y : Float} → 0 < p → 0 < p' → q * q' ≤ p * p' * 2 ^ 1074 → T (finite x) → T (finite y) → Plus x → Plus y
    → AtLeast p q x → AtLeast p' q' y → lt nought (x ⊗ y) ≡ true
mul-above P P' l X Y s t h k = least_above (zero-lt-suc 0) (mul_plus binary64 X Y s t) (mul-away P P' l h k)

-- ---- the quotient

-- x / e at least p / q, y / d at most M, r / w at most the quotient
ratio : (x e y d p q M r w : ℕ) → 0 < p → p * e ≤ q * x → y ≤ M * d → r * (q * M) ≤ p * w → r * (y * e) ≤ x * d * w
ratio x e y d p q M r w P h k l =
    le_of_mul-le-mul_right
    (le_trans (le_of_eq (first r y e p))
    (le_trans (mul-le-mul_left r (mul-le-mul k h))
    (le_trans (le_of_eq (second r M d q x))
    (le_trans (mul-le-mul_right (x * d) l) (le_of_eq (third p w x d))))))
    P
  where
    first : (r y e p : ℕ) → r * (y * e) * p ≡ r * (y * (p * e))
    first r y e p = simp (mul_assoc, mul_comm)

    second : (r M d q x : ℕ) → r * (M * d * (q * x)) ≡ r * (q * M) * (x * d)
    second r M d q x = simp (mul_assoc, mul_comm, mul_left_comm)

    third : (p w x d : ℕ) → p * w * (x * d) ≡ x * d * w * p
    third p w x d = simp (mul_assoc, mul_comm, mul_left_comm)

div_of : (f : Format) (p q M r w : ℕ) (x y : Float) → 0 < p → 0 < w → HeldAt f r w → r * (q * M) ≤ p * w → size_from p q x → size_up_to M y
    → AtLeast r w (div f x y)
unfolding div
div_of f p q M r w nan y P W H l h k = absurd h
div_of f p q M r w (inf s) nan P W H l h k = absurd k
div_of f p q M r w (inf s) (inf t) P W H l h k = absurd k
div_of f p q M r w (inf s) (fin t n d) P W H l h k = record { size = tt }
div_of f p q M r w (fin s m e) nan P W H l h k = absurd k
div_of f p q M r w (fin s m e) (inf t) P W H l h k = absurd k
div_of f p q M r w (fin s m e) (fin t n d) P W H l h k = go (eqb n 0) refl
  where
    go : (b : Bool) → eqb n 0 ≡ b → AtLeast r w (cond b (cond (eqb m 0) nan (inf (unlike s t))) (round f (unlike s t) (m * up e * down d) (n * up d * down e)))
    go true z = record { size = infinite r w m (unlike s t) (first_pos m (up e) (right_above q (m * up e) (p * down e) (mul-pos P (down_pos e)) h)) }
    go false z =
        round_least (unlike s t) (m * up e * down d) (n * up d * down e) (mul-pos (mul-pos (pos_of_ne-zero (eqb-false n 0 z)) (up_pos d)) (down_pos e)) W H
        (ratio (m * up e) (down e) (n * up d) (down d) p q M r w P h k l)

-- p / q by M is at least r / w: a divisor of 0 gives an infinity
pub div-least : {f : Format} {p q M r w : ℕ} {x y : Float} → 0 < p → 0 < w → HeldAt f r w → r * (q * M) ≤ p * w → AtLeast p q x → AtMost M y
    → AtLeast r w (div f x y)
div-least {f} {p} {q} {M} {r} {w} {x} {y} P W H l h k = div_of f p q M r w x y P W H l h.size k.size

-- ---- a value of a format that is above 0 is at least its smallest value

smallest_of : (f : Format) (x : Float) → T (fits f x) → T (lt (fin false 0 (pos 0)) x) → size_from 1 (2 ^ low f) x
unfolding fits lt
smallest_of f nan t h = absurd h
smallest_of f (inf s) t h = tt
smallest_of f (fin true m e) t h = absurd h
smallest_of f (fin false zero e) t h = absurd (none (down e) (up e) (ltb→lt (0 * 1 * down e) (0 * up e * 1) h))
  where
    none : (u v : ℕ) → 0 * 1 * u < 0 * v * 1 → ⊥
    none u v h = omega arith
smallest_of f (fin false (suc m) e) t h =
    let A = eqb (suc m % 2) 1 in
    let B = ltb (suc m) (2 ^ prec f) in
    let C = leb (down e) (2 ^ low f) in
    let D = ltb (suc m * up e) (2 ^ suc (emax f) * down e) in
    le_trans (le_of_eq (one-mul (down e)))
    (le_trans (leb→le (down e) (2 ^ low f) (and_r (A && B) C (and_l (A && B && C) D t)))
    (le-mul_of_pos_right (2 ^ low f) (mul-pos (zero-lt-suc m) (up_pos e))))

pub above-least : (f : Format) (x : Float) → T (fits f x) → lt nought x ≡ true → AtLeast 1 (2 ^ low f) x
above-least f x t h = record { size = smallest_of f x t (subst (λ (z : Float). T (lt z x)) nought-is (subst T (sym h) tt)) }
