-- Signed whole numbers ±a in the order `signed_le`: the tests of `lib.Ieee` that compute it, and its laws. Over a common denominator the
-- numerators of two floats are such numbers, so that every law of the floats' order rests on these. A signed number is `plus` less
-- `minus`, which makes the order of sums linear arithmetic. Assumes nothing.
use mathlib.Core.Path.{◌≡◌, refl, sym, ap, ◌∙◌, subst}
use mathlib.Core.Logic.{◌⊎◌, inl, inr}
use mathlib.Core.Bool.{Bool, true, false, not, ◌&&◌, ◌||◌}
use Prim.Native.Nat.{ℕ, zero, suc, ◌+◌, ◌*◌, ◌≤◌, ◌<◌}
use native.Mathlib.Nat.{le_of_eq, le_of_lt, not-le_of_lt, add_comm, add-mul, zero-mul, mul-le-mul_right, eq-or-lt_of_le, eq-zero-or-pos}
use native.Mathlib.Omega.{arith}
use lib.Dec.{T, ltb, eqb, ltb→lt, lt→ltb, nltb→le, eqb→eq}
use lib.Ieee.{below, level}
use lib.Ieee.Fits.{eq→eqb, and_l, and_r, and_i}
use lib.Ieee.Positive.{through}
use Rattle.sizes.specs.Sizes.{signed_le}

-- ---- the tests

pub or_l : (a b : Bool) → T a → T (a || b)
or_l true b t = tt
or_l false b t = absurd t

or_r : (a b : Bool) → T b → T (a || b)
or_r true b t = tt
or_r false b t = t

pub or_split : (a b : Bool) → T (a || b) → T a ⊎ T b
or_split true b t = inl tt
or_split false b t = inr t

-- a positive number is at most a negative one where both are 0
both_nought : (a b : ℕ) → a + b ≡ 0 → T (eqb a b && (false || eqb a 0))
both_nought zero zero h = tt
both_nought zero (suc b) h = absurd (omega arith)
both_nought (suc a) b h = absurd (omega arith)

nought_both : (a b : ℕ) → T (eqb a b && (false || eqb a 0)) → a + b ≡ 0
nought_both a b t =
    let e : a ≡ b = eqb→eq a b (and_l (eqb a b) (false || eqb a 0) t) in
    let z : a ≡ 0 = eqb→eq a 0 (and_r (eqb a b) (false || eqb a 0) t) in
    omega arith

pub test→signed : (s : Bool) (a : ℕ) (t : Bool) (b : ℕ) → T (below s a t b || level s a t b) → signed_le s a t b
test→signed false a false b h = elim (or_split (ltb a b) (eqb a b && true) h)
    [ inl u ↦ le_of_lt (ltb→lt a b u) | inr u ↦ le_of_eq (eqb→eq a b (and_l (eqb a b) true u)) ]
test→signed false a true b h = nought_both a b h
test→signed true a false b h = tt
test→signed true a true b h = elim (or_split (ltb b a) (eqb a b && true) h)
    [ inl u ↦ le_of_lt (ltb→lt b a u) | inr u ↦ le_of_eq (sym (eqb→eq a b (and_l (eqb a b) true u))) ]

pub signed→test : (s : Bool) (a : ℕ) (t : Bool) (b : ℕ) → signed_le s a t b → T (below s a t b || level s a t b)
signed→test false a false b h = elim (eq-or-lt_of_le h) [
  | inl p ↦ or_r (ltb a b) (eqb a b && true) (and_i (eqb a b) true (eq→eqb p) tt)
  | inr q ↦ or_l
      (ltb a b) (eqb a b && true) (lt→ltb a b q)
]
signed→test false a true b h = both_nought a b h
signed→test true a false b h = elim (eq-zero-or-pos (a + b)) [
  | inl z ↦ or_r (ltb 0 (a + b)) (eqb a b && (false || eqb a 0)) (both_nought a b z)
  | inr p ↦ or_l (ltb 0 (a + b)) (eqb a b && (false || eqb a 0))
      (lt→ltb 0 (a + b) p)
]
signed→test true a true b h = elim (eq-or-lt_of_le h) [
  | inl p ↦ or_r (ltb b a) (eqb a b && true) (and_i (eqb a b) true (eq→eqb (sym p)) tt)
  | inr q ↦
      or_l (ltb b a) (eqb a b && true) (lt→ltb b a q)
]

-- `below` is what `signed_le` the other way round is not
pub below-not : (s : Bool) (a : ℕ) (t : Bool) (b : ℕ) → T (below s a t b) → signed_le t b s a → ⊥
below-not false a false b h k = not-le_of_lt (ltb→lt a b h) k
below-not false a true b h k = h
below-not true a false b h k = clash (ltb→lt 0 (a + b) h) k
  where
    clash : 0 < a + b → b + a ≡ 0 → ⊥
    clash h k = omega arith
below-not true a true b h k = not-le_of_lt (ltb→lt b a h) k

pub not-below : (s : Bool) (a : ℕ) (t : Bool) (b : ℕ) → T (not (below s a t b)) → signed_le t b s a
not-below false a false b h = nltb→le a b h
not-below false a true b h = tt
not-below true a false b h = none a b (nltb→le 0 (a + b) h)
  where
    none : (a b : ℕ) → a + b ≤ 0 → b + a ≡ 0
    none a b h = omega arith
not-below true a true b h = nltb→le b a h

-- ---- zeros

pub null : (x q : ℕ) → 0 < q → x * q ≡ 0 → x ≡ 0
null zero q Q h = refl
null (suc x) q Q h = absurd (more x q Q h)
  where
    more : (x q : ℕ) → 0 < q → suc x * q ≡ 0 → ⊥
    more x q Q h = omega arith

pub null_le : (a y p : ℕ) → y ≡ 0 → a ≤ y * p → a ≡ 0
null_le a zero p e h = omega arith
null_le a (suc y) p e h = absurd (omega arith)

pub null_least : (x r n : ℕ) → x ≡ 0 → x * r ≤ n
null_least zero r n e = omega arith
null_least (suc x) r n e = absurd (omega arith)

null_sum : (x r z p : ℕ) → x ≡ 0 → z ≡ 0 → x * r + z * p ≡ 0
null_sum zero r zero p e f = omega arith
null_sum zero r (suc z) p e f = absurd (omega arith)
null_sum (suc x) r z p e f = absurd (omega arith)

-- ---- the order

-- x / p ≤ y / q ≤ z / r with signs
pub signed_through : (s t u : Bool) (x y z p q r : ℕ) → 0 < p → 0 < q → 0 < r → signed_le s (x * q) t (y * p) → signed_le t (y * r) u (z * q)
    → signed_le s (x * r) u (z * p)
signed_through false false false x y z p q r P Q R h k = through x y z p q r Q h k
signed_through false false true x y z p q r P Q R h k =
    let Y : y ≡ 0 = null y r R (omega arith) in
    null_sum x r z p (null x q Q (null_le (x * q) y p Y h)) (null z q Q (omega arith))
signed_through false true false x y z p q r P Q R h k = null_least x r (z * p) (null x q Q (omega arith))
signed_through false true true x y z p q r P Q R h k =
    let Y : y ≡ 0 = null y p P (omega arith) in
    null_sum x r z p (null x q Q (omega arith)) (null z q Q (null_le (z * q) y r Y k))
signed_through true false false x y z p q r P Q R h k = tt
signed_through true false true x y z p q r P Q R h k = null_least z p (x * r) (null z q Q (omega arith))
signed_through true true false x y z p q r P Q R h k = tt
signed_through true true true x y z p q r P Q R h k = through z y x r q p Q k h

-- ---- the two parts of a signed number

abbrev pub plus : Bool → ℕ → ℕ
plus false a = a
plus true a = 0

abbrev pub minus : Bool → ℕ → ℕ
minus false a = 0
minus true a = a

pub signed→sums : (s : Bool) (a : ℕ) (t : Bool) (b : ℕ) → signed_le s a t b → plus s a + minus t b ≤ plus t b + minus s a
signed→sums false a false b h = omega arith
signed→sums false a true b h = omega arith
signed→sums true a false b h = omega arith
signed→sums true a true b h = omega arith

pub sums→signed : (s : Bool) (a : ℕ) (t : Bool) (b : ℕ) → plus s a + minus t b ≤ plus t b + minus s a → signed_le s a t b
sums→signed false a false b h = omega arith
sums→signed false a true b h = omega arith
sums→signed true a false b h = tt
sums→signed true a true b h = omega arith

pub plus_scale : (s : Bool) (a w : ℕ) → plus s (a * w) ≡ plus s a * w
plus_scale false a w = refl
plus_scale true a w = sym (zero-mul w)

pub minus_scale : (s : Bool) (a w : ℕ) → minus s (a * w) ≡ minus s a * w
minus_scale false a w = sym (zero-mul w)
minus_scale true a w = refl

pub signed_scale : (s : Bool) (a : ℕ) (t : Bool) (b w : ℕ) → signed_le s a t b → signed_le s (a * w) t (b * w)
signed_scale false a false b w h = mul-le-mul_right w h
signed_scale false a true b w h = sym (add-mul a b w) ∙ ap (λ (z : ℕ). z * w) h ∙ zero-mul w
signed_scale true a false b w h = tt
signed_scale true a true b w h = mul-le-mul_right w h

pub signed_nought : (s : Bool) (a : ℕ) (t : Bool) (b : ℕ) → a ≡ 0 → b ≡ 0 → signed_le s a t b
signed_nought s a t b A B = sums→signed s a t b (subst (λ (z : ℕ). plus s z + minus t b ≤ plus t b + minus s z) (sym A)
    (subst (λ (z : ℕ). plus s 0 + minus t z ≤ plus t z + minus s 0) (sym B) (none s t)))
  where
    none : (s t : Bool) → plus s 0 + minus t 0 ≤ plus t 0 + minus s 0
    none false false = omega arith
    none false true = omega arith
    none true false = omega arith
    none true true = omega arith

pub signed_neg : (s : Bool) (a : ℕ) (t : Bool) (b : ℕ) → signed_le s a t b → signed_le (not t) b (not s) a
signed_neg false a false b h = h
signed_neg false a true b h = add_comm b a ∙ h
signed_neg true a false b h = tt
signed_neg true a true b h = h
