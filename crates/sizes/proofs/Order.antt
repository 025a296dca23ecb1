-- The order of floats as IEEE 754 compares them: -0 equals +0, and no comparison with a NaN holds. Both `le` and `lt` are `signed_le`
-- on the numerators that two values have over a common denominator, so every law below is one of whole numbers with signs.
-- Assumes nothing.
use mathlib.Core.Path.{◌≡◌, refl, sym, ◌∙◌, subst}
use mathlib.Core.Logic.{inl, inr}
use mathlib.Core.Bool.{Bool, true, false, not, true≢false}
use Prim.Native.Nat.{ℕ, ◌*◌, ◌^◌, ◌≤◌, ◌<◌}
use native.Mathlib.Nat.{le_of_eq, not-le_of_lt, mul-one, zero-lt-suc}
use lib.Dec.{T, not_T, ltb, leb, ltb→lt, nltb→le, leb→le, nleb→lt}
use lib.Ieee.{Float, nan, inf, fin, up, down, neg, lt, le, eq, is_nan}
use lib.Ieee.Bits.{is_true, is_false}
use lib.Ieee.Fits.{down_pos}
use lib.Ieee.Exact.{HasValue}
use lib.Ieee.Order.{le_of_values}
use lib.Ieee.Positive.{through}
use Rattle.numbers.specs.Rounded.{real}
use Rattle.sizes.proofs.Signed.{or_l, or_split, test→signed, signed→test, below-not, not-below, signed_through, signed_neg}
use Rattle.sizes.proofs.Sizes.{real-value}

-- ---- the laws, on tests as types

no_le_nan : (x : Float) → T (le x nan) → ⊥
unfolding le
no_le_nan nan h = h
no_le_nan (inf s) h = h
no_le_nan (fin s m e) h = h

trans : (x y z : Float) → T (le x y) → T (le y z) → T (le x z)
unfolding le
trans nan y z h k = absurd h
trans (inf true) y nan h k = absurd (no_le_nan y k)
trans (inf true) y (inf true) h k = tt
trans (inf true) y (inf false) h k = tt
trans (inf true) y (fin u k c) h l = tt
trans (inf false) nan z h k = absurd h
trans (inf false) (inf true) z h k = absurd h
trans (inf false) (inf false) z h k = k
trans (inf false) (fin t n d) z h k = absurd h
trans (fin s m e) nan z h k = absurd h
trans (fin s m e) (inf true) z h k = absurd h
trans (fin s m e) (inf false) nan h k = absurd k
trans (fin s m e) (inf false) (inf true) h k = absurd k
trans (fin s m e) (inf false) (inf false) h k = tt
trans (fin s m e) (inf false) (fin u l c) h k = absurd k
trans (fin s m e) (fin t n d) nan h k = absurd k
trans (fin s m e) (fin t n d) (inf u) h k = k
trans (fin s m e) (fin t n d) (fin u l c) h k =
    signed→test s (m * up e * down c) u (l * up c * down e)
    (signed_through s t u (m * up e) (n * up d) (l * up c) (down e) (down d) (down c) (down_pos e) (down_pos d) (down_pos c)
    (test→signed s (m * up e * down d) t (n * up d * down e) h) (test→signed t (n * up d * down c) u (l * up c * down d) k))

less_not : (x y : Float) → T (lt x y) → T (le y x) → ⊥
unfolding le
less_not nan y h k = h
less_not (inf s) nan h k = h
less_not (inf true) (inf true) h k = h
less_not (inf true) (inf false) h k = k
less_not (inf false) (inf t) h k = h
less_not (inf true) (fin t n d) h k = k
less_not (inf false) (fin t n d) h k = h
less_not (fin s m e) nan h k = h
less_not (fin s m e) (inf true) h k = h
less_not (fin s m e) (inf false) h k = k
less_not (fin s m e) (fin t n d) h k = below-not s (m * up e * down d) t (n * up d * down e) h (test→signed t (n * up d * down e) s (m * up e * down d) k)

not_less : (x y : Float) → T (not (is_nan x)) → T (not (is_nan y)) → T (not (lt x y)) → T (le y x)
unfolding le is_nan
not_less nan y p q h = absurd p
not_less (inf s) nan p q h = absurd q
not_less (inf true) (inf true) p q h = tt
not_less (inf true) (inf false) p q h = absurd h
not_less (inf false) (inf true) p q h = tt
not_less (inf false) (inf false) p q h = tt
not_less (inf true) (fin t n d) p q h = absurd h
not_less (inf false) (fin t n d) p q h = tt
not_less (fin s m e) nan p q h = absurd q
not_less (fin s m e) (inf true) p q h = tt
not_less (fin s m e) (inf false) p q h = absurd h
not_less (fin s m e) (fin t n d) p q h = signed→test t (n * up d * down e) s (m * up e * down d) (not-below s (m * up e * down d) t (n * up d * down e) h)

left_nan : (x y : Float) → T (le x y) → T (not (is_nan x))
unfolding le is_nan
left_nan nan y h = h
left_nan (inf s) y h = tt
left_nan (fin s m e) y h = tt

right_nan : (x y : Float) → T (le x y) → T (not (is_nan y))
unfolding is_nan
right_nan x nan h = absurd (no_le_nan x h)
right_nan x (inf s) h = tt
right_nan x (fin s m e) h = tt

less_le : (x y : Float) → T (lt x y) → T (le x y)
unfolding le
less_le x y h = or_l (lt x y) (eq x y) h

le_split : (x y : Float) → T (le x y) → T (le y x) → T (eq x y)
unfolding le
le_split x y h k = elim (or_split (lt x y) (eq x y) h) [ inl u ↦ absurd (less_not x y u k) | inr u ↦ u ]

-- ---- the laws, on the tests of a program

pub true→T : (b : Bool) → b ≡ true → T b
true→T b e = subst T (sym e) tt

-- what compares is no NaN
module _ (x y : Float) where
  pub le_left : le x y ≡ true → T (not (is_nan x))
  le_left h = left_nan x y (true→T (le x y) h)

  pub le_right : le x y ≡ true → T (not (is_nan y))
  le_right h = right_nan x y (true→T (le x y) h)

  pub lt_is_le : lt x y ≡ true → le x y ≡ true
  lt_is_le h = is_true (le x y) (less_le x y (true→T (lt x y) h))

  pub lt_left : lt x y ≡ true → T (not (is_nan x))
  lt_left h = le_left (lt_is_le h)

  pub lt_right : lt x y ≡ true → T (not (is_nan y))
  lt_right h = le_right (lt_is_le h)

  -- either way round
  pub lt_back : lt x y ≡ true → le y x ≡ false
  lt_back h = is_false (le y x) (not_T (le y x) (less_not x y (true→T (lt x y) h)))

  pub le_back : le x y ≡ true → lt y x ≡ false
  le_back h = is_false (lt y x) (not_T (lt y x) (λ k. less_not y x k (true→T (le x y) h)))

  pub not_lt : T (not (is_nan x)) → T (not (is_nan y)) → lt x y ≡ false → le y x ≡ true
  not_lt p q h = is_true (le y x) (not_less x y p q (subst (λ (b : Bool). T (not b)) (sym h) tt))

  pub not_le : T (not (is_nan x)) → T (not (is_nan y)) → le x y ≡ false → lt y x ≡ true
  not_le p q h = go (lt y x) refl
    where
      go : (b : Bool) → lt y x ≡ b → b ≡ true
      go true e = refl
      go false e = absurd (true≢false (sym (is_true (le x y) (not_less y x q p (subst (λ (b : Bool). T (not b)) (sym e) tt))) ∙ h))

  -- two values that are each at most the other are equal: as numbers, since -0 and +0 are
  pub le_both : le x y ≡ true → le y x ≡ true → eq x y ≡ true
  le_both h k = is_true (eq x y) (le_split x y (true→T (le x y) h) (true→T (le y x) k))

pub lt_self : (x : Float) → lt x x ≡ false
lt_self x = is_false (lt x x) (not_T (lt x x) (λ h. less_not x x h (less_le x x h)))

pub le_self : (x : Float) → T (not (is_nan x)) → le x x ≡ true
le_self x p = not_lt x x p p (lt_self x)

-- one after the other
module _ (x y z : Float) where
  pub le_then_le : le x y ≡ true → le y z ≡ true → le x z ≡ true
  le_then_le h k = is_true (le x z) (trans x y z (true→T (le x y) h) (true→T (le y z) k))

  pub lt_then_le : lt x y ≡ true → le y z ≡ true → lt x z ≡ true
  lt_then_le h k = not_le z x (le_right y z k) (lt_left x y h)
      (is_false (le z x) (not_T (le z x) (λ l. less_not x y (true→T (lt x y) h) (trans y z x (true→T (le y z) k) l))))

  pub le_then_lt : le x y ≡ true → lt y z ≡ true → lt x z ≡ true
  le_then_lt h k = not_le z x (lt_right y z k) (le_left x y h)
      (is_false (le z x) (not_T (le z x) (λ l. less_not y z (true→T (lt y z) k) (trans z x y l (true→T (le x y) h)))))

  pub lt_then_lt : lt x y ≡ true → lt y z ≡ true → lt x z ≡ true
  lt_then_lt h k = lt_then_le h (lt_is_le y z k)

-- ---- negation turns the order round

pub neg_of : (x y : Float) → T (le x y) → T (le (neg y) (neg x))
unfolding le neg
neg_of nan y h = absurd h
neg_of (inf s) nan h = absurd h
neg_of (inf true) (inf true) h = tt
neg_of (inf true) (inf false) h = tt
neg_of (inf false) (inf true) h = absurd h
neg_of (inf false) (inf false) h = tt
neg_of (inf true) (fin t n d) h = tt
neg_of (inf false) (fin t n d) h = absurd h
neg_of (fin s m e) nan h = absurd h
neg_of (fin s m e) (inf true) h = absurd h
neg_of (fin s m e) (inf false) h = tt
neg_of (fin s m e) (fin t n d) h =
    signed→test (not t) (n * up d * down e) (not s) (m * up e * down d)
    (signed_neg s (m * up e * down d) t (n * up d * down e) (test→signed s (m * up e * down d) t (n * up d * down e) h))

pub neg_anti : (x y : Float) → le x y ≡ true → le (neg y) (neg x) ≡ true
neg_anti x y h = is_true (le (neg y) (neg x)) (neg_of x y (true→T (le x y) h))

pub neg_neg : (x : Float) → neg (neg x) ≡ x
unfolding neg
neg_neg nan = refl
neg_neg (inf true) = refl
neg_neg (inf false) = refl
neg_neg (fin true m e) = refl
neg_neg (fin false m e) = refl

pub neg_not_nan : (x : Float) → T (not (is_nan x)) → T (not (is_nan (neg x)))
unfolding neg is_nan
neg_not_nan nan h = h
neg_not_nan (inf s) h = tt
neg_not_nan (fin s m e) h = tt

pub neg_lt : (x y : Float) → lt x y ≡ true → lt (neg y) (neg x) ≡ true
neg_lt x y h = not_le (neg x) (neg y) (neg_not_nan x (lt_left x y h)) (neg_not_nan y (lt_right x y h))
    (is_false (le (neg x) (neg y)) (not_T (le (neg x) (neg y)) (λ k. less_not x y (true→T (lt x y) h) (back (neg_of (neg x) (neg y) k)))))
  where
    back : T (le (neg (neg y)) (neg (neg x))) → T (le y x)
    back k = rw (neg_neg y, neg_neg x) at k

-- ---- values that are known as fractions, and whole numbers as floats

cross_le : (x y : Float) (a c b d : ℕ) → 0 < c → 0 < d → HasValue x false a c → HasValue y false b d → T (le x y) → a * d ≤ b * c
unfolding le
cross_le nan y a c b d C D v w h = absurd v
cross_le (inf s) y a c b d C D v w h = absurd v
cross_le (fin true m e) y a c b d C D v w h = absurd (true≢false v.0)
cross_le (fin false m e) nan a c b d C D v w h = absurd w
cross_le (fin false m e) (inf t) a c b d C D v w h = absurd w
cross_le (fin false m e) (fin true n g) a c b d C D v w h = absurd (true≢false w.0)
cross_le (fin false m e) (fin false n g) a c b d C D v w h =
    through a (m * up e) b c (down e) d (down_pos e) (le_of_eq (sym v.1))
    (through (m * up e) (n * up g) b (down e) (down g) d (down_pos g) (test→signed false (m * up e * down g) false (n * up g * down e) h) (le_of_eq w.1))

known_not_nan : (x : Float) (s : Bool) (a c : ℕ) → HasValue x s a c → T (not (is_nan x))
unfolding is_nan
known_not_nan nan s a c v = absurd v
known_not_nan (inf t) s a c v = tt
known_not_nan (fin t m e) s a c v = tt

pub le_values : (x y : Float) (a c b d : ℕ) → 0 < c → 0 < d → HasValue x false a c → HasValue y false b d → le x y ≡ leb (a * d) (b * c)
le_values x y a c b d C D v w = go (leb (a * d) (b * c)) (leb→le (a * d) (b * c)) (nleb→lt (a * d) (b * c))
  where
    go : (t : Bool) → (T t → a * d ≤ b * c) → (T (not t) → b * c < a * d) → le x y ≡ t
    go true h k = is_true (le x y) (le_of_values x y a c b d C D v w (h tt))
    go false h k = is_false (le x y) (not_T (le x y) (λ t. not-le_of_lt (k tt) (cross_le x y a c b d C D v w t)))

pub lt_values : (x y : Float) (a c b d : ℕ) → 0 < c → 0 < d → HasValue x false a c → HasValue y false b d → lt x y ≡ ltb (a * d) (b * c)
lt_values x y a c b d C D v w = go (ltb (a * d) (b * c)) (ltb→lt (a * d) (b * c)) (nltb→le (a * d) (b * c))
  where
    go : (t : Bool) → (T t → a * d < b * c) → (T (not t) → b * c ≤ a * d) → lt x y ≡ t
    go true h k = not_le y x (known_not_nan y false b d w) (known_not_nan x false a c v)
        (is_false (le y x) (not_T (le y x) (λ t. not-le_of_lt (h tt) (cross_le y x b d a c D C w v t))))
    go false h k = le_back y x (is_true (le y x) (le_of_values y x b d a c D C w v (k tt)))

module _ (m n : ℕ) (M : m ≤ 2 ^ 53) (N : n ≤ 2 ^ 53) where
  pub le_real : le (real m) (real n) ≡ leb m n
  le_real = le_values (real m) (real n) m 1 n 1 (zero-lt-suc 0) (zero-lt-suc 0) (real-value m M) (real-value n N) ∙ rw (mul-one m, mul-one n)

  pub lt_real : lt (real m) (real n) ≡ ltb m n
  lt_real = lt_values (real m) (real n) m 1 n 1 (zero-lt-suc 0) (zero-lt-suc 0) (real-value m M) (real-value n N) ∙ rw (mul-one m, mul-one n)
