-- Rounded operations keep the order, with negative values too: of two sums, differences, products by one factor that is not negative,
-- or quotients by one divisor above 0, the one with the larger term is no smaller. A result may overflow to an infinity.
-- Rounding keeps the order of signed fractions, and the exact results are signed fractions: a signed number ±a is `plus` less `minus`,
-- so that the order of exact sums is linear arithmetic. Assumes nothing.
use mathlib.Core.Path.{◌≡◌, refl, sym, ap, ◌∙◌, subst}
use mathlib.Core.Bool.{Bool, true, false, not, cond}
use Prim.Native.Nat.{ℕ, ◌+◌, ◌-◌, ◌*◌, ◌≤◌, ◌<◌}
use native.Mathlib.Nat.{le_trans, le_of_eq, add_comm, mul_comm, mul_assoc, mul_left_comm, mul-le-mul_right, mul-mul-mul_comm, mul-pos, zero-mul, zero-lt-suc}
use native.Mathlib.Omega.{arith}
use lib.IntN.{ℤ, pos}
use lib.Dec.{T, ltb, eqb, ltb→lt, eqb→eq}
use lib.Ieee.{Float, nan, inf, fin, Format, binary32, binary64, up, down, unlike, round, neg, sum, add, sub, mul, div, lt, le, is_nan}
use lib.Ieee.Bits.{is_true}
use lib.Ieee.Fits.{up_pos, down_pos}
use lib.Ieee.Positive.{first_pos}
use lib.Ieee.Order.{round_mono}
use lib.Ieee.Scale.{finite, round_same}
use borrow.Author.Tests.{ltb-true, ltb-false}
use Rattle.numbers.specs.Rounded.{nought}
use Rattle.sizes.specs.Sizes.{signed_le, is_plus, Plus}
use Rattle.sizes.proofs.Rounds.{round_neg, round_plus}
use Rattle.sizes.proofs.Signed.{
  test→signed,
  signed→test,
  null,
  plus,
  minus,
  signed→sums,
  sums→signed,
  plus_scale,
  minus_scale,
  signed_scale,
  signed_nought,
}
use Rattle.sizes.proofs.Order.{true→T, neg_of, neg_anti, neg_not_nan, le_self, lt_then_le}
use Rattle.sizes.proofs.Signs.{nought-is, plus_not_nan}

-- ---- rounding

opposite : (x y : Float) → T (is_plus x) → T (is_plus y) → T (le (neg x) y)
unfolding le neg is_plus
opposite nan y h k = absurd h
opposite (inf true) y h k = absurd h
opposite (inf false) nan h k = absurd k
opposite (inf false) (inf true) h k = absurd k
opposite (inf false) (inf false) h k = tt
opposite (inf false) (fin t n d) h k = tt
opposite (fin true m e) y h k = absurd h
opposite (fin false m e) nan h k = absurd k
opposite (fin false m e) (inf true) h k = absurd k
opposite (fin false m e) (inf false) h k = tt
opposite (fin false m e) (fin true n d) h k = absurd k
opposite (fin false m e) (fin false n d) h k = signed→test true (m * up e * down d) false (n * up d * down e) tt

pub round_nought : (f : Format) (s : Bool) (c : ℕ) → 0 < c → round f s 0 c ≡ fin s 0 (pos 0)
round_nought f s c C = round_same f s 0 c 0 1 C (zero-lt-suc 0) (sym (zero-mul c)) ∙ one f
  where
    one : (f : Format) → round f s 0 1 ≡ fin s 0 (pos 0)
    one binary32 = unfold round in refl
    one binary64 = unfold round in refl

noughts : (s t : Bool) → T (le (fin s 0 (pos 0)) (fin t 0 (pos 0)))
unfolding le
noughts s t = signed→test s (0 * 1 * 1) t (0 * 1 * 1) (signed_nought s (0 * 1 * 1) t (0 * 1 * 1) refl refl)

round_of_lem : (f : Format) (s : Bool) (a c : ℕ) (t : Bool) (b d : ℕ) → 0 < c → 0 < d → signed_le s (a * d) t (b * c) → T (le (round f s a c) (round f t b d))
round_of_lem f false a c false b d C D h = round_mono f a c b d C D h
round_of_lem f false a c true b d C D h =
    let A : a ≡ 0 = null a d D (omega arith) in
    let B : b ≡ 0 = null b c C (omega arith) in
    rw (A, B, round_nought f false c C, round_nought f true d D) (noughts false true)
round_of_lem f true a c false b d C D h = rw (round_neg f a c) (opposite (round f false a c) (round f false b d) (round_plus f a c).sign (round_plus f b d).sign)
round_of_lem f true a c true b d C D h = rw (round_neg f a c, round_neg f b d) (neg_of (round f false b d) (round f false a c) (round_mono f b d a c D C h))

-- ±a / c ≤ ±b / d
pub round_signed : (f : Format) (s : Bool) (a c : ℕ) (t : Bool) (b d : ℕ) → 0 < c → 0 < d → signed_le s (a * d) t (b * c)
    → le (round f s a c) (round f t b d) ≡ true
round_signed f s a c t b d C D h = is_true (le (round f s a c) (round f t b d)) (round_of_lem f s a c t b d C D h)

unlike_swap : (s t : Bool) → unlike s t ≡ unlike t s
unlike_swap false false = refl
unlike_swap false true = refl
unlike_swap true false = refl
unlike_swap true true = refl

pub unlike_plus : (s : Bool) → unlike s false ≡ s
unlike_plus false = refl
unlike_plus true = refl

-- ---- a sum is its exact value, rounded

record Added (f : Format) (s : Bool) (a : ℕ) (u : Bool) (c D : ℕ) : Type 0 where
  sign : Bool
  size : ℕ
  is : sum f s a u c D ≡ round f sign size D
  at : plus sign size + (minus s a + minus u c) ≡ minus sign size + (plus s a + plus u c)

added : (f : Format) (s : Bool) (a : ℕ) (u : Bool) (c D : ℕ) → Added f s a u c D
unfolding sum
added f false a false c D = record { sign = false; size = a + c; is = refl; at = omega arith }
added f true a true c D = record { sign = true; size = a + c; is = refl; at = omega arith }
added f false a true c D = go (ltb a c) refl
  where
    go : (p : Bool) → ltb a c ≡ p → Added f false a true c D
    go true e = record { sign = true; size = c - a; is = rw e; at = omega (arith, ltb-true a c e) }
    go false e = record { sign = false; size = a - c; is = rw e; at = omega (arith, ltb-false a c e) }
added f true a false c D = go (ltb a c) (ltb c a) refl refl
  where
    go : (p q : Bool) → ltb a c ≡ p → ltb c a ≡ q → Added f true a false c D
    go true q e g = record { sign = false; size = c - a; is = rw e; at = omega (arith, ltb-true a c e) }
    go false true e g = record { sign = true; size = a - c; is = rw (e, g); at = omega (arith, ltb-false a c e) }
    go false false e g = record { sign = false; size = a - c; is = rw (e, g); at = omega (arith, ltb-false a c e, ltb-false c a g) }

-- P / M are the two parts of a sum's value, a and b those of its terms
parts : (P M Q N a a' b b' c c' d d' : ℕ) → P + (a' + c') ≡ M + (a + c) → Q + (b' + d') ≡ N + (b + d) → a + b' ≤ b + a' → c + d' ≤ d + c' → P + N ≤ Q + M
parts P M Q N a a' b b' c c' d d' h k l r = omega arith

-- scaled by w
at_scaled : (f : Format) (s : Bool) (a : ℕ) (u : Bool) (c D w : ℕ) (A : Added f s a u c D)
    → plus A.sign (A.size * w) + (minus s (a * w) + minus u (c * w)) ≡ minus A.sign (A.size * w) + (plus s (a * w) + plus u (c * w))
at_scaled f s a u c D w A =
    rw (plus_scale A.sign A.size w, minus_scale A.sign A.size w, minus_scale s a w, minus_scale u c w, plus_scale s a w, plus_scale u c w)
    (spread (plus A.sign A.size) (minus s a) (minus u c) w ∙ ap (λ (z : ℕ). z * w) A.at
    ∙ sym (spread (minus A.sign A.size) (plus s a) (plus u c) w))
  where
    spread : (x y z w : ℕ) → x * w + (y * w + z * w) ≡ (x + (y + z)) * w
    spread x y z w = omega arith

-- the sums of a / C and c / C, of b / D and d / D, with signs
sum_of_lem : (f : Format) (s : Bool) (a : ℕ) (u : Bool) (c C : ℕ) (t : Bool) (b : ℕ) (v : Bool) (d D : ℕ) → 0 < C → 0 < D
    → signed_le s (a * D) t (b * C) → signed_le u (c * D) v (d * C) → T (le (sum f s a u c C) (sum f t b v d D))
sum_of_lem f s a u c C t b v d D P Q h k =
    let A = added f s a u c C in
    let B = added f t b v d D in
    subst (λ (z : Float). T (le z (sum f t b v d D))) (sym A.is)
    (subst (λ (z : Float). T (le (round f A.sign A.size C) z)) (sym B.is)
    (round_of_lem f A.sign A.size C B.sign B.size D P Q
    (sums→signed A.sign (A.size * D) B.sign (B.size * C)
    (parts (plus A.sign (A.size * D)) (minus A.sign (A.size * D)) (plus B.sign (B.size * C)) (minus B.sign (B.size * C))
    (plus s (a * D)) (minus s (a * D)) (plus t (b * C)) (minus t (b * C)) (plus u (c * D)) (minus u (c * D)) (plus v (d * C)) (minus v (d * C))
    (at_scaled f s a u c C D A) (at_scaled f t b v d D C B) (signed→sums s (a * D) t (b * C) h) (signed→sums u (c * D) v (d * C) k)))))

-- x / p ≤ y / q, over the denominators p * r and q * w of two sums
over_left : (s t : Bool) (x y p q r w : ℕ) → signed_le s (x * q) t (y * p) → signed_le s (x * r * (q * w)) t (y * w * (p * r))
over_left s t x y p q r w h =
    subst (λ (z : ℕ). signed_le s z t (y * w * (p * r))) (mul-mul-mul_comm x q r w)
    (subst (λ (z : ℕ). signed_le s (x * q * (r * w)) t z) (ap (λ (z : ℕ). y * p * z) (mul_comm r w) ∙ mul-mul-mul_comm y p w r)
    (signed_scale s (x * q) t (y * p) (r * w) h))

over_right : (s t : Bool) (x y p q r w : ℕ) → signed_le s (x * q) t (y * p) → signed_le s (x * r * (w * q)) t (y * w * (r * p))
over_right s t x y p q r w h =
    subst (λ (z : ℕ). signed_le s (x * r * z) t (y * w * (r * p))) (mul_comm q w)
    (subst (λ (z : ℕ). signed_le s (x * r * (q * w)) t (y * w * z)) (mul_comm p r) (over_left s t x y p q r w h))

-- an infinity at either end
bottom : (z : Float) → T (not (is_nan z)) → T (le (inf true) z)
unfolding le is_nan
bottom nan h = h
bottom (inf true) h = tt
bottom (inf false) h = tt
bottom (fin s m e) h = tt

top : (z : Float) → T (not (is_nan z)) → T (le z (inf false))
unfolding le is_nan
top nan h = h
top (inf true) h = tt
top (inf false) h = tt
top (fin s m e) h = tt

round_not_nan : (f : Format) (s : Bool) (a c : ℕ) → T (not (is_nan (round f s a c)))
round_not_nan f false a c = plus_not_nan (round_plus f a c)
round_not_nan f true a c = rw (round_neg f a c) (neg_not_nan (round f false a c) (plus_not_nan (round_plus f a c)))

sum_not_nan : (f : Format) (s : Bool) (a : ℕ) (u : Bool) (c D : ℕ) → T (not (is_nan (sum f s a u c D)))
sum_not_nan f s a u c D = let A = added f s a u c D in subst (λ (z : Float). T (not (is_nan z))) (sym A.is) (round_not_nan f A.sign A.size D)

add_of : (f : Format) (x y z w : Float) → T (finite z) → T (finite w) → T (le x y) → T (le z w) → T (le (add f x z) (add f y w))
unfolding add le
add_of f x y nan w Z W h k = absurd Z
add_of f x y (inf u) w Z W h k = absurd Z
add_of f x y (fin u k c) nan Z W h l = absurd W
add_of f x y (fin u k c) (inf v) Z W h l = absurd W
add_of f nan y (fin u k c) (fin v o g) Z W h l = absurd h
add_of f (inf s) nan (fin u k c) (fin v o g) Z W h l = absurd h
add_of f (inf s) (inf t) (fin u k c) (fin v o g) Z W h l = h
add_of f (inf true) (fin t n d) (fin u k c) (fin v o g) Z W h l =
    bottom (sum f t (n * up d * down g) v (o * up g * down d) (down d * down g)) (sum_not_nan f t (n * up d * down g) v (o * up g * down d) (down d * down g))
add_of f (inf false) (fin t n d) (fin u k c) (fin v o g) Z W h l = absurd h
add_of f (fin s m e) nan (fin u k c) (fin v o g) Z W h l = absurd h
add_of f (fin s m e) (inf true) (fin u k c) (fin v o g) Z W h l = absurd h
add_of f (fin s m e) (inf false) (fin u k c) (fin v o g) Z W h l =
    top (sum f s (m * up e * down c) u (k * up c * down e) (down e * down c)) (sum_not_nan f s (m * up e * down c) u (k * up c * down e) (down e * down c))
add_of f (fin s m e) (fin t n d) (fin u k c) (fin v o g) Z W h l =
    sum_of_lem f s (m * up e * down c) u (k * up c * down e) (down e * down c) t (n * up d * down g) v (o * up g * down d) (down d * down g)
    (mul-pos (down_pos e) (down_pos c)) (mul-pos (down_pos d) (down_pos g))
    (over_left s t (m * up e) (n * up d) (down e) (down d) (down c) (down g) (test→signed s (m * up e * down d) t (n * up d * down e) h))
    (over_right u v (k * up c) (o * up g) (down c) (down g) (down e) (down d) (test→signed u (k * up c * down g) v (o * up g * down c) l))

pub add_mono : (f : Format) (x y z w : Float) → T (finite z) → T (finite w) → le x y ≡ true → le z w ≡ true → le (add f x z) (add f y w) ≡ true
add_mono f x y z w Z W h k = is_true (le (add f x z) (add f y w)) (add_of f x y z w Z W (true→T (le x y) h) (true→T (le z w) k))

pub finite_not_nan : (x : Float) → T (finite x) → T (not (is_nan x))
unfolding is_nan
finite_not_nan nan h = h
finite_not_nan (inf s) h = absurd h
finite_not_nan (fin s m e) h = tt

pub add_mono_left : (f : Format) (x y z : Float) → T (finite z) → le x y ≡ true → le (add f x z) (add f y z) ≡ true
add_mono_left f x y z Z h = add_mono f x y z z Z Z h (le_self z (finite_not_nan z Z))

-- ---- a sum does not depend on which term is first

sum_swap : (f : Format) (s : Bool) (a : ℕ) (t : Bool) (b c : ℕ) → sum f s a t b c ≡ sum f t b s a c
unfolding sum
sum_swap f false a false b c = ap (λ (z : ℕ). round f false z c) (add_comm a b)
sum_swap f true a true b c = ap (λ (z : ℕ). round f true z c) (add_comm a b)
sum_swap f false a true b c = go (ltb a b) (ltb b a) refl refl
  where
    go : (p q : Bool) → ltb a b ≡ p → ltb b a ≡ q → cond p (round f true (b - a) c) (round f false (a - b) c) ≡ cond q (round f false (a - b) c)
        (round f p (b - a) c)
    go true true e g = absurd (both (ltb-true a b e) (ltb-true b a g))
      where
        both : a < b → b < a → ⊥
        both h k = omega arith
    go true false e g = refl
    go false true e g = refl
    go false false e g = ap (λ (z : ℕ). round f false z c) (same (ltb-false a b e) (ltb-false b a g))
      where
        same : b ≤ a → a ≤ b → a - b ≡ b - a
        same h k = omega arith
sum_swap f true a false b c = go (ltb a b) (ltb b a) refl refl
  where
    go : (p q : Bool) → ltb a b ≡ p → ltb b a ≡ q → cond p (round f false (b - a) c) (round f q (a - b) c) ≡ cond q (round f true (a - b) c)
        (round f false (b - a) c)
    go true true e g = absurd (both (ltb-true a b e) (ltb-true b a g))
      where
        both : a < b → b < a → ⊥
        both h k = omega arith
    go true false e g = refl
    go false true e g = refl
    go false false e g = ap (λ (z : ℕ). round f false z c) (same (ltb-false a b e) (ltb-false b a g))
      where
        same : b ≤ a → a ≤ b → a - b ≡ b - a
        same h k = omega arith

pub add_swap : (f : Format) (x y : Float) → add f x y ≡ add f y x
unfolding add
add_swap f nan nan = refl
add_swap f nan (inf t) = refl
add_swap f nan (fin t n d) = refl
add_swap f (inf s) nan = refl
add_swap f (inf true) (inf true) = refl
add_swap f (inf true) (inf false) = refl
add_swap f (inf false) (inf true) = refl
add_swap f (inf false) (inf false) = refl
add_swap f (inf s) (fin t n d) = refl
add_swap f (fin s m e) nan = refl
add_swap f (fin s m e) (inf t) = refl
add_swap f (fin s m e) (fin t n d) = sum_swap f s (m * up e * down d) t (n * up d * down e) (down e * down d)
    ∙ ap (λ (z : ℕ). sum f t (n * up d * down e) s (m * up e * down d) z) (mul_comm (down e) (down d))

pub mul_swap : (f : Format) (x y : Float) → mul f x y ≡ mul f y x
unfolding mul
mul_swap f nan nan = refl
mul_swap f nan (inf t) = refl
mul_swap f nan (fin t n d) = refl
mul_swap f (inf s) nan = refl
mul_swap f (inf true) (inf true) = refl
mul_swap f (inf true) (inf false) = refl
mul_swap f (inf false) (inf true) = refl
mul_swap f (inf false) (inf false) = refl
mul_swap f (inf s) (fin t n d) = ap (λ (b : Bool). cond (eqb n 0) nan (inf b)) (unlike_swap s t)
mul_swap f (fin s m e) nan = refl
mul_swap f (fin s m e) (inf t) = ap (λ (b : Bool). cond (eqb m 0) nan (inf b)) (unlike_swap s t)
mul_swap f (fin s m e) (fin t n d) = rw (unlike_swap s t, mul_comm (m * up e) (n * up d), mul_comm (down e) (down d))

-- ---- the other term, and the difference

pub add_mono_right : (f : Format) (x y z : Float) → T (finite x) → le y z ≡ true → le (add f x y) (add f x z) ≡ true
add_mono_right f x y z X h = rw (add_swap f x y, add_swap f x z) (add_mono_left f y z x X h)

neg_finite : (x : Float) → T (finite x) → T (finite (neg x))
unfolding neg
neg_finite nan h = h
neg_finite (inf s) h = h
neg_finite (fin s m e) h = tt

-- what is taken away is less
pub sub_mono : (f : Format) (x y z w : Float) → T (finite z) → T (finite w) → le x y ≡ true → le w z ≡ true → le (sub f x z) (sub f y w) ≡ true
unfolding sub
sub_mono f x y z w Z W h k = add_mono f x y (neg z) (neg w) (neg_finite z Z) (neg_finite w W) h (neg_anti w z k)

pub sub_mono_left : (f : Format) (x y z : Float) → T (finite z) → le x y ≡ true → le (sub f x z) (sub f y z) ≡ true
unfolding sub
sub_mono_left f x y z Z h = add_mono_left f x y (neg z) (neg_finite z Z) h

pub sub_anti_right : (f : Format) (x y z : Float) → T (finite x) → le y z ≡ true → le (sub f x z) (sub f x y) ≡ true
unfolding sub
sub_anti_right f x y z X h = add_mono_right f x (neg z) (neg y) X (neg_anti y z h)

-- ---- the product by a factor that is not negative

-- the factor is ±k / r: with a minus sign it is 0
mul_signed : (s t u : Bool) (x y p q k r : ℕ) → (T u → k ≡ 0) → signed_le s (x * q) t (y * p)
    → signed_le (unlike s u) (x * k * (q * r)) (unlike t u) (y * k * (p * r))
mul_signed s t false x y p q k r U h =
    subst (λ (b : Bool). signed_le b (x * k * (q * r)) (unlike t false) (y * k * (p * r))) (sym (unlike_plus s))
    (subst (λ (b : Bool). signed_le s (x * k * (q * r)) b (y * k * (p * r))) (sym (unlike_plus t))
    (subst (λ (z : ℕ). signed_le s z t (y * k * (p * r))) (mul-mul-mul_comm x q k r)
    (subst (λ (z : ℕ). signed_le s (x * q * (k * r)) t z) (mul-mul-mul_comm y p k r)
    (signed_scale s (x * q) t (y * p) (k * r) h))))
mul_signed s t true x y p q k r U h = signed_nought (unlike s true) (x * k * (q * r)) (unlike t true) (y * k * (p * r)) (none x k (q * r) (U tt))
    (none y k (p * r) (U tt))
  where
    none : (x k w : ℕ) → k ≡ 0 → x * k * w ≡ 0
    none x k w e = rw e (omega arith)

mul_of : (f : Format) (x y z : Float) → T (finite x) → T (finite y) → T (finite z) → T (le (fin false 0 (pos 0)) z) → T (le x y)
    → T (le (mul f x z) (mul f y z))
unfolding mul le
mul_of f nan y z X Y Z N h = absurd X
mul_of f (inf s) y z X Y Z N h = absurd X
mul_of f (fin s m e) nan z X Y Z N h = absurd Y
mul_of f (fin s m e) (inf t) z X Y Z N h = absurd Y
mul_of f (fin s m e) (fin t n d) nan X Y Z N h = absurd Z
mul_of f (fin s m e) (fin t n d) (inf u) X Y Z N h = absurd Z
mul_of f (fin s m e) (fin t n d) (fin u k c) X Y Z N h =
    round_of_lem f (unlike s u) (m * up e * (k * up c)) (down e * down c) (unlike t u) (n * up d * (k * up c)) (down d * down c)
    (mul-pos (down_pos e) (down_pos c)) (mul-pos (down_pos d) (down_pos c))
    (mul_signed s t u (m * up e) (n * up d) (down e) (down d) (k * up c) (down c)
    (minus-nought u (k * up c) (down c) (test→signed false (0 * 1 * down c) u (k * up c * 1) N))
    (test→signed s (m * up e * down d) t (n * up d * down e) h))
  where
    minus-nought : (u : Bool) (k r : ℕ) → signed_le false (0 * 1 * r) u (k * 1) → T u → k ≡ 0
    minus-nought false k r h t = absurd t
    minus-nought true k r h t = omega arith

-- z may be either zero
pub mul_mono_left : (f : Format) (x y z : Float) → T (finite x) → T (finite y) → T (finite z) → le nought z ≡ true → le x y ≡ true
    → le (mul f x z) (mul f y z) ≡ true
mul_mono_left f x y z X Y Z N h = is_true (le (mul f x z) (mul f y z))
    (mul_of f x y z X Y Z (subst (λ (w : Float). T (le w z)) nought-is (true→T (le nought z) N)) (true→T (le x y) h))

pub mul_mono_right : (f : Format) (x y z : Float) → T (finite x) → T (finite y) → T (finite z) → le nought x ≡ true → le y z ≡ true
    → le (mul f x y) (mul f x z) ≡ true
mul_mono_right f x y z X Y Z N h = rw (mul_swap f x y, mul_swap f x z) (mul_mono_left f y z x Y Z X N h)

-- ---- the quotient by a divisor above 0

quotient : (f : Format) (s : Bool) (m : ℕ) (e : ℤ) (k : ℕ) (c : ℤ) → 0 < k
    → div f (fin s m e) (fin false k c) ≡ round f s (m * up e * down c) (k * up c * down e)
unfolding div
quotient f s m e k c K = go (eqb k 0) (eqb→eq k 0)
  where
    go : (b : Bool) → (T b → k ≡ 0) → cond b (cond (eqb m 0) nan (inf (unlike s false)))
        (round f (unlike s false) (m * up e * down c) (k * up c * down e)) ≡ round f s (m * up e * down c) (k * up c * down e)
    go true z = absurd (none k K (z tt))
      where
        none : (k : ℕ) → 0 < k → k ≡ 0 → ⊥
        none k h z = omega arith
    go false z = ap (λ (b : Bool). round f b (m * up e * down c) (k * up c * down e)) (unlike_plus s)

-- x / p ≤ y / q, both by k / r
div_signed : (s t : Bool) (x y p q k r : ℕ) → signed_le s (x * q) t (y * p) → signed_le s (x * r * (k * q)) t (y * r * (k * p))
div_signed s t x y p q k r h =
    subst (λ (z : ℕ). signed_le s z t (y * r * (k * p))) (regroup x q k r)
    (subst (λ (z : ℕ). signed_le s (x * q * (k * r)) t z) (regroup y p k r) (signed_scale s (x * q) t (y * p) (k * r) h))
  where
    regroup : (x q k r : ℕ) → x * q * (k * r) ≡ x * r * (k * q)
    regroup x q k r = simp (mul_assoc, mul_comm, mul_left_comm)

div_by : (f : Format) (x y : Float) (k : ℕ) (c : ℤ) → 0 < k → T (le x y) → T (le (div f x (fin false k c)) (div f y (fin false k c)))
unfolding div le
div_by f nan y k c K h = absurd h
div_by f (inf s) nan k c K h = absurd h
div_by f (inf true) (inf true) k c K h = tt
div_by f (inf true) (inf false) k c K h = tt
div_by f (inf false) (inf true) k c K h = absurd h
div_by f (inf false) (inf false) k c K h = tt
div_by f (inf true) (fin t n d) k c K h = subst (λ (z : Float). T (le (inf true) z)) (sym (quotient f t n d k c K))
    (bottom (round f t (n * up d * down c) (k * up c * down d)) (round_not_nan f t (n * up d * down c) (k * up c * down d)))
div_by f (inf false) (fin t n d) k c K h = absurd h
div_by f (fin s m e) nan k c K h = absurd h
div_by f (fin s m e) (inf true) k c K h = absurd h
div_by f (fin s m e) (inf false) k c K h = subst (λ (z : Float). T (le z (inf false))) (sym (quotient f s m e k c K))
    (top (round f s (m * up e * down c) (k * up c * down e)) (round_not_nan f s (m * up e * down c) (k * up c * down e)))
div_by f (fin s m e) (fin t n d) k c K h =
    subst (λ (z : Float). T (le z (div f (fin t n d) (fin false k c)))) (sym (quotient f s m e k c K))
    (subst (λ (z : Float). T (le (round f s (m * up e * down c) (k * up c * down e)) z)) (sym (quotient f t n d k c K))
    (round_of_lem f s (m * up e * down c) (k * up c * down e) t (n * up d * down c) (k * up c * down d) (mul-pos (mul-pos K (up_pos c)) (down_pos e))
    (mul-pos (mul-pos K (up_pos c)) (down_pos d))
    (div_signed s t (m * up e) (n * up d) (down e) (down d) (k * up c) (down c) (test→signed s (m * up e * down d) t (n * up d * down e) h))))

-- above 0
above_digits : (m : ℕ) (e : ℤ) → T (lt (fin false 0 (pos 0)) (fin false m e)) → 0 < m
unfolding lt
above_digits m e h = first_pos m (up e) (more (down e) (m * up e) (ltb→lt (0 * 1 * down e) (m * up e * 1) h))
  where
    more : (u v : ℕ) → 0 * 1 * u < v * 1 → 0 < v
    more u v h = omega arith

div_of : (f : Format) (x y z : Float) → T (finite z) → T (lt (fin false 0 (pos 0)) z) → T (le x y) → T (le (div f x z) (div f y z))
unfolding lt
div_of f x y nan Z N h = absurd Z
div_of f x y (inf u) Z N h = absurd Z
div_of f x y (fin true k c) Z N h = absurd N
div_of f x y (fin false k c) Z N h = div_by f x y k c (above_digits k c N) h

pub div_mono_left : (f : Format) (x y z : Float) → T (finite z) → lt nought z ≡ true → le x y ≡ true → le (div f x z) (div f y z) ≡ true
div_mono_left f x y z Z N h = is_true (le (div f x z) (div f y z))
    (div_of f x y z Z (subst (λ (w : Float). T (lt w z)) nought-is (true→T (lt nought z) N)) (true→T (le x y) h))

-- x / p not negative, by z / r ≤ w / v
div_cross : (x p z r w v : ℕ) → z * v ≤ w * r → x * v * (z * p) ≤ x * r * (w * p)
div_cross x p z r w v h = le_trans (le_of_eq (left x v z p)) (le_trans (mul-le-mul_right (x * p) h) (le_of_eq (sym (left x r w p))))
  where
    left : (x v z p : ℕ) → x * v * (z * p) ≡ z * v * (x * p)
    left x v z p = simp (mul_assoc, mul_comm, mul_left_comm)

anti_by : (f : Format) (m : ℕ) (e : ℤ) (k : ℕ) (c : ℤ) (o : ℕ) (g : ℤ) → 0 < k → 0 < o → T (le (fin false k c) (fin false o g))
    → T (le (div f (fin false m e) (fin false o g)) (div f (fin false m e) (fin false k c)))
unfolding le
anti_by f m e k c o g K O h =
    subst (λ (z : Float). T (le z (div f (fin false m e) (fin false k c)))) (sym (quotient f false m e o g O))
    (subst (λ (z : Float). T (le (round f false (m * up e * down g) (o * up g * down e)) z)) (sym (quotient f false m e k c K))
    (round_mono f (m * up e * down g) (o * up g * down e) (m * up e * down c) (k * up c * down e) (mul-pos (mul-pos O (up_pos g)) (down_pos e))
    (mul-pos (mul-pos K (up_pos c)) (down_pos e))
    (div_cross (m * up e) (down e) (k * up c) (down c) (o * up g) (down g) (test→signed false (k * up c * down g) false (o * up g * down c) h))))

anti_of : (f : Format) (x z w : Float) → T (finite x) → T (is_plus x) → T (finite w) → T (lt (fin false 0 (pos 0)) z) → T (lt (fin false 0 (pos 0)) w)
    → T (le z w) → T (le (div f x w) (div f x z))
unfolding lt le is_plus
anti_of f nan z w X P W N O h = absurd X
anti_of f (inf s) z w X P W N O h = absurd X
anti_of f (fin true m e) z w X P W N O h = absurd P
anti_of f (fin false m e) nan w X P W N O h = absurd N
anti_of f (fin false m e) (inf true) w X P W N O h = absurd N
anti_of f (fin false m e) (inf false) nan X P W N O h = absurd h
anti_of f (fin false m e) (inf false) (inf t) X P W N O h = absurd W
anti_of f (fin false m e) (inf false) (fin t o g) X P W N O h = absurd h
anti_of f (fin false m e) (fin true k c) w X P W N O h = absurd N
anti_of f (fin false m e) (fin false k c) nan X P W N O h = absurd W
anti_of f (fin false m e) (fin false k c) (inf t) X P W N O h = absurd W
anti_of f (fin false m e) (fin false k c) (fin true o g) X P W N O h = absurd O
anti_of f (fin false m e) (fin false k c) (fin false o g) X P W N O h = anti_by f m e k c o g (above_digits k c N) (above_digits o g O) h

-- a larger divisor gives no larger quotient of what is not negative
pub div_anti_right : (f : Format) (x z w : Float) → T (finite x) → Plus x → T (finite w) → lt nought z ≡ true → le z w ≡ true
    → le (div f x w) (div f x z) ≡ true
div_anti_right f x z w X P W N h =
    is_true (le (div f x w) (div f x z))
    (anti_of f x z w X P.sign W (subst (λ (y : Float). T (lt y z)) nought-is (true→T (lt nought z) N))
    (subst (λ (y : Float). T (lt y w)) nought-is (true→T (lt nought w) (lt_then_le nought z w N h))) (true→T (le z w) h))
