-- Sizes in units of 2 ^ -20, where whole numbers are too coarse: a polynomial whose terms are below 1 is bounded by adding up such
-- units. The format holds every number of them below 2 ^ 53, so that rounding keeps a bound. Assumes nothing.
use mathlib.Core.Path.{◌≡◌, refl, sym, ap, ◌∙◌, subst}
use mathlib.Core.Bool.{Bool, true, false, ◌&&◌, cond, true≢false, beq}
use Prim.Native.Nat.{ℕ, zero, suc, ◌+◌, ◌-◌, ◌*◌, ◌^◌, ◌≤◌, ◌<◌}
use native.Mathlib.Nat.{
  le_trans,
  le_of_eq,
  lt_of_lt_of_le,
  mul_comm,
  mul_assoc,
  mul_left_comm,
  mul_right_comm,
  mul-mul-mul_comm,
  mul-le-mul,
  mul-le-mul_right,
  mul-lt-mul_of_pos_right,
  mul-pos,
  mul-one,
  add-mul,
  le_of_mul-le-mul_right,
  zero-lt-suc,
}
use native.Mathlib.Omega.{arith}
use lib.Dec.{T, ltb, eqb, eqb→eq, lit<, lit≤}
use lib.Pow.{pow-add, pow_pos}
use lib.Ieee.{Float, nan, inf, fin, binary64, up, down, unlike, round, neg, sum, add, sub, mul, div, le}
use lib.Ieee.Fits.{down_pos}
use lib.Ieee.Exact.{HasValue}
use lib.Ieee.Order.{round_mono}
use lib.Ieee.Positive.{through}
use borrow.Author.Tests.{ltb-true}
use Rattle.numbers.specs.Rounded.{◌⊕◌, ◌⊖◌, ◌⊗◌, ◌⊘◌}
use Rattle.float_sizes.specs.Fractions.{parts_up_to, Under}
use Rattle.sizes.specs.Sizes.{AtMost, AtLeast, size_from, size_up_to, is_plus, Plus, HeldAt}
use Rattle.sizes.proofs.Numbers.{held_at_value}
use Rattle.sizes.proofs.Signed.{test→signed}
use Rattle.sizes.proofs.Rounds.{round_plus, round_neg, round_least}

-- ---- rounding

pub held-parts : (p : ℕ) → p < 2 ^ 53 → HeldAt binary64 p (2 ^ 20)
held-parts p h =
    record {
      q = p;
      j = 1054;
      few = h;
      under = lt_of_lt_of_le (mul-lt-mul_of_pos_right h (pow_pos 1054)) (lit≤ tt);
      is = ap (λ (z : ℕ). p * z) (pow-add 2 1054 20) ∙ sym (mul_assoc p (2 ^ 1054) (2 ^ 20));
    }

parts_of_le : (p : ℕ) (x y : Float) → T (is_plus x) → HasValue y false p (2 ^ 20) → T (le x y) → parts_up_to p x
unfolding le is_plus
parts_of_le p nan y s v h = absurd s
parts_of_le p (inf true) y s v h = absurd s
parts_of_le p (inf false) nan s v h = absurd v
parts_of_le p (inf false) (inf t) s v h = absurd v
parts_of_le p (inf false) (fin t n d) s v h = absurd h
parts_of_le p (fin true m e) y s v h = absurd s
parts_of_le p (fin false m e) nan s v h = absurd v
parts_of_le p (fin false m e) (inf t) s v h = absurd v
parts_of_le p (fin false m e) (fin true n d) s v h = absurd (true≢false v.0)
parts_of_le p (fin false m e) (fin false n d) s v h =
    through (m * up e) (n * up d) p (down e) (down d) (2 ^ 20) (down_pos d) (test→signed false (m * up e * down d) false (n * up d * down e) h)
    (le_of_eq v.1)

parts_neg : (p : ℕ) (x : Float) → parts_up_to p x → parts_up_to p (neg x)
unfolding neg
parts_neg p nan h = h
parts_neg p (inf s) h = h
parts_neg p (fin s m e) h = h

pub neg_under : {p : ℕ} {x : Float} → Under p x → Under p (neg x)
neg_under {p} {x} h = record { size = parts_neg p x h.size }

pub round_under : {p : ℕ} (s : Bool) (a c : ℕ) → 0 < c → p < 2 ^ 53 → a * 2 ^ 20 ≤ p * c → Under p (round binary64 s a c)
round_under {p} s a c C l h = go s
  where
    plus : Under p (round binary64 false a c)
    plus =
        record {
          size =
              parts_of_le p (round binary64 false a c) (round binary64 false p (2 ^ 20)) (round_plus binary64 a c).sign
              (held_at_value false (pow_pos 20) (held-parts p l))
              (round_mono binary64 a c p (2 ^ 20) C (pow_pos 20) h);
        }

    go : (s : Bool) → Under p (round binary64 s a c)
    go false = plus
    go true = subst (λ (x : Float). Under p x) (sym (round_neg binary64 a c)) (neg_under plus)

-- ---- weaker bounds, and whole numbers

weaken : (p q : ℕ) (x : Float) → p ≤ q → parts_up_to p x → parts_up_to q x
weaken p q nan l h = h
weaken p q (inf s) l h = h
weaken p q (fin s m e) l h = le_trans h (mul-le-mul_right (down e) l)

pub under_weaken : {p : ℕ} {x : Float} (q : ℕ) → p ≤ q → Under p x → Under q x
under_weaken {p} {x} q l h = record { size = weaken p q x l h.size }

parts-most : (N p : ℕ) (x : Float) → p ≤ N * 2 ^ 20 → parts_up_to p x → size_up_to N x
parts-most N p nan l h = h
parts-most N p (inf s) l h = h
parts-most N p (fin s m e) l h =
    le_of_mul-le-mul_right
    (le_trans h (le_trans (mul-le-mul_right (down e) l) (le_of_eq (mul_right_comm N (2 ^ 20) (down e)))))
    (pow_pos 20)

pub under-most : {p : ℕ} {x : Float} (N : ℕ) → p ≤ N * 2 ^ 20 → Under p x → AtMost N x
under-most {p} {x} N l h = record { size = parts-most N p x l h.size }

most-parts : (N : ℕ) (x : Float) → size_up_to N x → parts_up_to (N * 2 ^ 20) x
most-parts N nan h = h
most-parts N (inf s) h = h
most-parts N (fin s m e) h = le_trans (mul-le-mul_right (2 ^ 20) h) (le_of_eq (mul_right_comm N (down e) (2 ^ 20)))

pub most-under : {N : ℕ} {x : Float} → AtMost N x → Under (N * 2 ^ 20) x
most-under {N} {x} h = record { size = most-parts N x h.size }

-- ---- sum and difference

sides : (x y e d p q : ℕ) → x * 2 ^ 20 ≤ p * e → y * 2 ^ 20 ≤ q * d → (x * d + y * e) * 2 ^ 20 ≤ (p + q) * (e * d)
sides x y e d p q h k =
    let a : x * d * 2 ^ 20 ≤ p * (e * d) = le_trans (le_of_eq (mul_right_comm x d (2 ^ 20))) (le_trans (mul-le-mul_right d h) (le_of_eq (mul_assoc p e d))) in
    let b : y * e * 2 ^ 20 ≤ q * (e * d) = le_trans (le_of_eq (mul_right_comm y e (2 ^ 20)))
    (le_trans (mul-le-mul_right e k) (le_of_eq (mul_assoc q d e ∙ ap (λ (z : ℕ). q * z) (mul_comm d e)))) in
    omega (arith, add-mul p q (e * d))

sum-under : (s : Bool) (a : ℕ) (t : Bool) (b c p : ℕ) → 0 < c → p < 2 ^ 53 → (a + b) * 2 ^ 20 ≤ p * c → Under p (sum binary64 s a t b c)
unfolding sum
sum-under s a t b c p C l h = go (beq s t) (ltb a b) (s && ltb b a)
  where
    go : (x y z : Bool) → Under p (cond x (round binary64 s (a + b) c) (cond y (round binary64 t (b - a) c) (round binary64 z (a - b) c)))
    go true y z = round_under s (a + b) c C l h
    go false true z = round_under t (b - a) c C l (omega arith)
    go false false z = round_under z (a - b) c C l (omega arith)

add_of : (p q : ℕ) (x y : Float) → p + q < 2 ^ 53 → parts_up_to p x → parts_up_to q y → Under (p + q) (add binary64 x y)
unfolding add
add_of p q nan y l h k = absurd h
add_of p q (inf s) y l h k = absurd h
add_of p q (fin s m e) nan l h k = absurd k
add_of p q (fin s m e) (inf t) l h k = absurd k
add_of p q (fin s m e) (fin t n d) l h k =
    sum-under s (m * up e * down d) t (n * up d * down e) (down e * down d) (p + q) (mul-pos (down_pos e) (down_pos d)) l
    (sides (m * up e) (n * up d) (down e) (down d) p q h k)

pub add-under : {p q : ℕ} {x y : Float} → p + q < 2 ^ 53 → Under p x → Under q y → Under (p + q) (x ⊕ y)
add-under {p} {q} {x} {y} l h k = add_of p q x y l h.size k.size

pub sub-under : {p q : ℕ} {x y : Float} → p + q < 2 ^ 53 → Under p x → Under q y → Under (p + q) (x ⊖ y)
unfolding sub
sub-under l h k = add-under l h (neg_under k)

-- ---- product and quotient

scaled : (x y e d p q r : ℕ) → p * q ≤ r * 2 ^ 20 → x * 2 ^ 20 ≤ p * e → y * 2 ^ 20 ≤ q * d → x * y * 2 ^ 20 ≤ r * (e * d)
scaled x y e d p q r l h k =
    le_of_mul-le-mul_right
    (le_trans (le_of_eq (mul_assoc (x * y) (2 ^ 20) (2 ^ 20) ∙ mul-mul-mul_comm x y (2 ^ 20) (2 ^ 20)))
    (le_trans (mul-le-mul h k)
    (le_trans (le_of_eq (mul-mul-mul_comm p e q d))
    (le_trans (mul-le-mul_right (e * d) l) (le_of_eq (mul_right_comm r (2 ^ 20) (e * d)))))))
    (pow_pos 20)

mul_of : (p q r : ℕ) (x y : Float) → r < 2 ^ 53 → p * q ≤ r * 2 ^ 20 → parts_up_to p x → parts_up_to q y → Under r (mul binary64 x y)
unfolding mul
mul_of p q r nan y L l h k = absurd h
mul_of p q r (inf s) y L l h k = absurd h
mul_of p q r (fin s m e) nan L l h k = absurd k
mul_of p q r (fin s m e) (inf t) L l h k = absurd k
mul_of p q r (fin s m e) (fin t n d) L l h k =
    round_under (unlike s t) (m * up e * (n * up d)) (down e * down d) (mul-pos (down_pos e) (down_pos d)) L
    (scaled (m * up e) (n * up d) (down e) (down d) p q r l h k)

pub mul-under : {p q : ℕ} {x y : Float} (r : ℕ) → r < 2 ^ 53 → p * q ≤ r * 2 ^ 20 → Under p x → Under q y → Under r (x ⊗ y)
mul-under {p} {q} {x} {y} r L l h k = mul_of p q r x y L l h.size k.size

-- x / e at most p units, y / d at least q units, p / q at most r units
quotient : (x y e d p q r : ℕ) → 0 < q → p * 2 ^ 20 ≤ r * q → x * 2 ^ 20 ≤ p * e → q * d ≤ 2 ^ 20 * y → x * d * 2 ^ 20 ≤ r * (y * e)
quotient x y e d p q r Q l h k =
    le_of_mul-le-mul_right
    (le_trans (le_of_eq (first x d (2 ^ 20) q))
    (le_trans (mul-le-mul h k)
    (le_trans (le_of_eq (second p e (2 ^ 20) y))
    (le_trans (mul-le-mul_right (y * e) l) (le_of_eq (mul_right_comm r q (y * e)))))))
    Q
  where
    first : (x d u q : ℕ) → x * d * u * q ≡ x * u * (q * d)
    first x d u q = simp (mul_assoc, mul_comm, mul_left_comm)

    second : (p e u y : ℕ) → p * e * (u * y) ≡ p * u * (y * e)
    second p e u y = simp (mul_assoc, mul_comm, mul_left_comm)

above : (u y a : ℕ) → 0 < a → a ≤ u * y → 0 < y
above u zero a h k = absurd (none u a h k)
  where
    none : (u a : ℕ) → 0 < a → a ≤ u * 0 → ⊥
    none u a h k = omega arith
above u (suc y) a h k = zero-lt-suc y

div_of : (p q r : ℕ) (x y : Float) → 0 < q → r < 2 ^ 53 → p * 2 ^ 20 ≤ r * q → parts_up_to p x → size_from q (2 ^ 20) y → Under r (div binary64 x y)
unfolding div
div_of p q r nan y Q L l h k = absurd h
div_of p q r (inf s) y Q L l h k = absurd h
div_of p q r (fin s m e) nan Q L l h k = absurd k
div_of p q r (fin s m e) (inf t) Q L l h k = record { size = nothing r }
  where
    nothing : (r : ℕ) → 0 * 1 * 2 ^ 20 ≤ r * 1
    nothing r = omega arith
div_of p q r (fin s m e) (fin t n d) Q L l h k = go (eqb n 0) (eqb→eq n 0)
  where
    y+ : 0 < n * up d
    y+ = above (2 ^ 20) (n * up d) (q * down d) (mul-pos Q (down_pos d)) k

    gone : (n u : ℕ) → 0 < n * u → n ≡ 0 → ⊥
    gone zero u h z = omega arith
    gone (suc n) u h z = omega arith

    go : (b : Bool) → (T b → n ≡ 0) → Under r (cond b (cond (eqb m 0) nan (inf (unlike s t)))
        (round binary64 (unlike s t) (m * up e * down d) (n * up d * down e)))
    go true z = absurd (gone n (up d) y+ (z tt))
    go false z =
        round_under (unlike s t) (m * up e * down d) (n * up d * down e) (mul-pos y+ (down_pos e)) L
        (quotient (m * up e) (n * up d) (down e) (down d) p q r Q l h k)

-- by what is at least q units in size
pub div-under : {p q : ℕ} {x y : Float} (r : ℕ) → 0 < q → r < 2 ^ 53 → p * 2 ^ 20 ≤ r * q → Under p x → AtLeast q (2 ^ 20) y → Under r (x ⊘ y)
div-under {p} {q} {x} {y} r Q L l h k = div_of p q r x y Q L l h.size k.size

-- ---- what a small term leaves of a whole number k: at least q units, and the sign plus

left_over : (k p q A B C : ℕ) → A ≡ k * C → B * 2 ^ 20 ≤ p * C → q + p ≤ k * 2 ^ 20 → q * C + B * 2 ^ 20 ≤ A * 2 ^ 20
left_over k p q A B C e h l =
    let a : q * C + p * C ≤ A * 2 ^ 20 = le_trans (le_of_eq (sym (add-mul q p C)))
    (le_trans (mul-le-mul_right C l) (le_of_eq (mul_right_comm k (2 ^ 20) C ∙ ap (λ (z : ℕ). z * 2 ^ 20) (sym e)))) in
    omega arith

whole-over : (k : ℕ) (n u d e : ℕ) → n * u * 1 ≡ k * d → n * u * e ≡ k * (d * e)
whole-over k n u d e v = ap (λ (z : ℕ). z * e) (sym (mul-one (n * u)) ∙ v) ∙ mul_assoc k d e

left_of : (k p q : ℕ) (c x : Float) → q < 2 ^ 53 → q + p ≤ k * 2 ^ 20 → HasValue c false k 1 → parts_up_to p x
    → Plus (add binary64 c x) × AtLeast q (2 ^ 20) (add binary64 c x)
unfolding add sum
left_of k p q nan x L l v h = absurd v
left_of k p q (inf t) x L l v h = absurd v
left_of k p q (fin true n d) x L l v h = absurd (true≢false v.0)
left_of k p q (fin false n d) nan L l v h = absurd h
left_of k p q (fin false n d) (inf t) L l v h = absurd h
left_of k p q (fin false n d) (fin false m e) L l v h =
    let C = mul-pos (down_pos d) (down_pos e) in
    let a = left_over k p q (n * up d * down e) 0 (down d * down e) (whole-over k n (up d) (down d) (down e) v.1) (omega arith) l in (
      round_plus binary64 (n * up d * down e + m * up e * down d) (down d * down e),
      round_least false (n * up d * down e + m * up e * down d)
          (down d * down e) C (pow_pos 20) (held-parts q L) (omega arith),
    )
left_of k p q (fin false n d) (fin true m e) L l v h = go (ltb A B) refl
  where
    A : ℕ
    A = n * up d * down e

    B : ℕ
    B = m * up e * down d

    C : ℕ
    C = down d * down e

    a : q * C + B * 2 ^ 20 ≤ A * 2 ^ 20
    a = left_over k p q A B C (whole-over k n (up d) (down d) (down e) v.1)
        (le_trans (le_of_eq (mul_right_comm (m * up e) (down d) (2 ^ 20)))
        (le_trans (mul-le-mul_right (down d) h) (le_of_eq (mul_assoc p (down e) (down d) ∙ ap (λ (z : ℕ). p * z) (mul_comm (down e) (down d)))))) l

    go : (b : Bool) → ltb A B ≡ b → Plus (cond b (round binary64 true (B - A) C) (round binary64 false (A - B) C))
        × AtLeast q (2 ^ 20) (cond b (round binary64 true (B - A) C) (round binary64 false (A - B) C))
    go true z = absurd (omega (arith, a, ltb-true A B z))
    go false z = (
      round_plus binary64 (A - B) C,
      round_least false (A - B) C (mul-pos (down_pos d) (down_pos e)) (pow_pos 20) (held-parts q L)
          (omega (arith, a)),
    )

pub left_plus : {p : ℕ} {x : Float} (k : ℕ) (c : Float) → p ≤ k * 2 ^ 20 → HasValue c false k 1 → Under p x → Plus (c ⊕ x)
left_plus {p} {x} k c l v h = (left_of k p 0 c x (lit< tt) (omega arith) v h.size).0

pub left_least : {p : ℕ} {x : Float} (k : ℕ) (c : Float) (q : ℕ) → q < 2 ^ 53 → q + p ≤ k * 2 ^ 20 → HasValue c false k 1 → Under p x
    → AtLeast q (2 ^ 20) (c ⊕ x)
left_least {p} {x} k c q L l v h = (left_of k p q c x L l v h.size).1

-- ---- a difference from a whole number k: y, not negative and at most k + r, is no further from it than r, which is k or more

near_of : (k r : ℕ) (y c : Float) → k ≤ r → r * 2 ^ 20 < 2 ^ 53 → T (is_plus y) → parts_up_to ((k + r) * 2 ^ 20) y → HasValue c false k 1
    → Under (r * 2 ^ 20) (sub binary64 y c)
unfolding sub add neg sum is_plus
near_of k r nan c K L s h v = absurd s
near_of k r (inf t) c K L s h v = absurd h
near_of k r (fin true m e) c K L s h v = absurd s
near_of k r (fin false m e) nan K L s h v = absurd v
near_of k r (fin false m e) (inf t) K L s h v = absurd v
near_of k r (fin false m e) (fin true n d) K L s h v = absurd (true≢false v.0)
near_of k r (fin false m e) (fin false n d) K L s h v = go (ltb A B)
  where
    A : ℕ
    A = m * up e * down d

    B : ℕ
    B = n * up d * down e

    C : ℕ
    C = down e * down d

    a : A * 2 ^ 20 ≤ (k + r) * 2 ^ 20 * C
    a = le_trans (le_of_eq (mul_right_comm (m * up e) (down d) (2 ^ 20)))
        (le_trans (mul-le-mul_right (down d) h) (le_of_eq (mul_assoc ((k + r) * 2 ^ 20) (down e) (down d))))

    b : k * 2 ^ 20 * C ≡ B * 2 ^ 20
    b = mul_right_comm k (2 ^ 20) C ∙ ap (λ (z : ℕ). z * 2 ^ 20)
        (sym (whole-over k n (up d) (down d) (down e) v.1 ∙ ap (λ (z : ℕ). k * z) (mul_comm (down d) (down e))))

    both : (k + r) * 2 ^ 20 * C ≡ k * 2 ^ 20 * C + r * 2 ^ 20 * C
    both = ap (λ (z : ℕ). z * C) (add-mul k r (2 ^ 20)) ∙ add-mul (k * 2 ^ 20) (r * 2 ^ 20) C

    least : k * 2 ^ 20 * C ≤ r * 2 ^ 20 * C
    least = mul-le-mul_right C (mul-le-mul_right (2 ^ 20) K)

    go : (t : Bool) → Under (r * 2 ^ 20) (cond t (round binary64 true (B - A) C) (round binary64 false (A - B) C))
    go true = round_under true (B - A) C (mul-pos (down_pos e) (down_pos d)) L (omega (arith, b, least))
    go false = round_under false (A - B) C (mul-pos (down_pos e) (down_pos d)) L (omega (arith, a, b, both))

pub near_under : {y : Float} (k r : ℕ) (c : Float) → k ≤ r → r * 2 ^ 20 < 2 ^ 53 → Plus y → Under ((k + r) * 2 ^ 20) y → HasValue c false k 1
    → Under (r * 2 ^ 20) (y ⊖ c)
near_under {y} k r c K L s h v = near_of k r y c K L s.sign h.size v
