-- Distances from a median as differences: of two finite values in the total order, the later less the earlier has the sign plus, and is the distance
-- of either from the other. It grows with what lies between, and doesn't see a zero's sign. Assumes nothing.
use Prim.Native.Nat.{ℕ, ◌+◌, ◌-◌, ◌*◌, ◌≤◌, ◌<◌}
use mathlib.Core.Path.{◌≡◌, refl, sym, ap, ◌∙◌, subst}
use mathlib.Core.Logic.{⊎_elim}
use mathlib.Core.Bool.{Bool, true, false, not, cond}
use mathlib.Core.List.{List, [], ◌∷◌, map}
use native.Mathlib.Nat.{le_refl, le_of_lt, add_comm, mul_comm, zero-mul}
use native.Mathlib.Omega.{arith}
use lib.IntN.{ℤ, pos}
use lib.Dec.{T, ltb}
use lib.Ieee.{Float, nan, inf, fin, binary64, up, down, round, neg, sum, add, sub, lt, le, eq, is_nan, fits, to_bits}
use lib.Ieee.Fits.{sub-fits}
use lib.Ieee.Scale.{finite}
use borrow.Author.Tests.{le-ltb, ltb-true, ltb-false}
use Rattle.numbers.specs.Rounded.{◌⊕◌, ◌⊖◌, nought}
use Rattle.numbers.proofs.Tests.{which, lt_or_le, by_pick}
use Rattle.sizes.specs.Sizes.{is_plus, Plus, signed_le, Each, none, more}
use Rattle.sizes.proofs.Rounds.{round_neg, round_plus}
use Rattle.sizes.proofs.Signed.{test→signed}
use Rattle.sizes.proofs.Order.{true→T, not_lt}
use Rattle.sizes.proofs.Monotone.{finite_not_nan}
use Rattle.sizes.proofs.Signs.{nought-is}
use Rattle.floats.specs.TotalOrder.{key}
use Rattle.floats.proofs.TotalOrder.{turned-at, bits_fin, mag, units, mag_small, mag_mono, units_mono, key_lt, fits-sign}
use Rattle.median.specs.Median.{absolute, distance, mad_of, median_of}
use Rattle.median.proofs.Absolutes.{zero-plain}
use Rattle.median.proofs.Levels.{only_zeros}
use Rattle.windows.specs.Windows.{one_zero}
use Rattle.windows.proofs.Plains.{Proper, plain-is}

-- ---- keys and the order of values

plus_key : (m : ℕ) (e : ℤ) → T (fits binary64 (fin false m e)) → key (fin false m e) ≡ 9223372036854775808 + mag (units m e)
unfolding key
plus_key m e h = ⊎_elim
    (λ w. omega (arith, w, bits_fin false m e))
    (λ w. omega (arith, w, bits_fin false m e, mag_small false m e h))
    (turned-at (to_bits binary64 (fin false m e)))

minus-key : (m : ℕ) (e : ℤ) → key (fin true m e) ≡ 9223372036854775807 - mag (units m e)
unfolding key
minus-key m e = ⊎_elim
    (λ w. omega (arith, w, bits_fin true m e))
    (λ w. omega (arith, w, bits_fin true m e))
    (turned-at (to_bits binary64 (fin true m e)))

-- of two values with the sign plus
plus_le : (x y : Float) → T (fits binary64 x) → T (fits binary64 y) → T (is_plus x) → T (is_plus y) → T (le x y) → key x ≤ key y
unfolding le lt eq is_plus
plus_le nan y f g p q h = absurd p
plus_le (inf true) y f g p q h = absurd p
plus_le (inf false) nan f g p q h = absurd q
plus_le (inf false) (inf true) f g p q h = absurd q
plus_le (inf false) (inf false) f g p q h = le_refl (key (inf false))
plus_le (inf false) (fin t n d) f g p q h = absurd h
plus_le (fin true m e) y f g p q h = absurd p
plus_le (fin false m e) nan f g p q h = absurd q
plus_le (fin false m e) (inf true) f g p q h = absurd q
plus_le (fin false m e) (inf false) f g p q h = le_of_lt (key_lt (fin false m e) (inf false) f g tt)
plus_le (fin false m e) (fin true n d) f g p q h = absurd q
plus_le (fin false m e) (fin false n d) f g p q h =
    let l = test→signed false (m * up e * down d) false (n * up d * down e) h in
    omega (arith, plus_key m e f, plus_key n d g, mag_mono (units m e) (units n d) (units_mono m e n d l))

pub plus_key_le : {x y : Float} → T (fits binary64 x) → T (fits binary64 y) → Plus x → Plus y → le x y ≡ true → key x ≤ key y
plus_key_le {x} {y} f g p q h = plus_le x y f g p.sign q.sign (true→T (le x y) h)

key_le : (x y : Float) → T (fits binary64 x) → T (fits binary64 y) → T (not (is_nan x)) → T (not (is_nan y)) → key x ≤ key y → le x y ≡ true
key_le x y f g p q h = ⊎_elim
    (λ e. absurd (omega (arith, key_lt y x g f (true→T (lt y x) e))))
    (λ e. not_lt y x q p e)
    (which (lt y x))

-- ---- the later less the earlier

either_plus : (b : Bool) (x y : Float) → (b ≡ true → Plus x) → (b ≡ false → Plus y) → Plus (cond b x y)
either_plus true x y p q = p refl
either_plus false x y p q = q refl

sum_plus : (s t : Bool) (a b c : ℕ) → signed_le s a t b → (s ≡ false → t ≡ true → ⊥) → Plus (sum binary64 t b (not s) a c)
unfolding sum
sum_plus false false a b c h k =
    either_plus (ltb b a) (round binary64 true (a - b) c) (round binary64 false (b - a) c)
    (λ e. absurd (omega (arith, ltb-true b a e)))
    (λ e. round_plus binary64 (b - a) c)
sum_plus false true a b c h k = absurd (k refl refl)
sum_plus true false a b c h k = round_plus binary64 (b + a) c
sum_plus true true a b c h k =
    either_plus (ltb b a) (round binary64 false (a - b) c) (round binary64 (ltb a b) (b - a) c)
    (λ e. round_plus binary64 (a - b) c)
    (λ e. subst (λ (z : Bool). Plus (round binary64 z (b - a) c)) (sym (le-ltb a b h)) (round_plus binary64 (b - a) c))

forward : (x y : Float) → T (fits binary64 x) → T (fits binary64 y) → T (finite x) → T (finite y) → key x ≤ key y → T (le x y) → Plus (sub binary64 y x)
unfolding sub add neg le lt eq
forward nan y f g p q h l = absurd p
forward (inf s) y f g p q h l = absurd p
forward (fin s m e) nan f g p q h l = absurd q
forward (fin s m e) (inf t) f g p q h l = absurd q
forward (fin s m e) (fin t n d) f g p q h l =
    sum_plus s t (m * up e * down d) (n * up d * down e) (down d * down e) (test→signed s (m * up e * down d) t (n * up d * down e) l)
    (λ a b. absurd (omega (
      arith,
      plus_key m e (fits-sign s false m e f),
      minus-key n d,
      subst (λ (z : Bool). key (fin z m e) ≤ key (fin t n d)) a h,
      subst (λ (z : Bool). key (fin false m e) ≤ key (fin z n d)) b (subst (λ (z : Bool). key (fin z m e) ≤ key (fin t n d)) a h),
    )))

-- ---- absolute values

absolute_of : (x : Float) → T (is_plus x) → absolute x ≡ x
unfolding absolute is_plus
absolute_of nan h = absurd h
absolute_of (inf false) h = refl
absolute_of (inf true) h = absurd h
absolute_of (fin false m e) h = refl
absolute_of (fin true m e) h = absurd h

absolute_neg : (x : Float) → absolute (neg x) ≡ absolute x
unfolding absolute neg
absolute_neg nan = refl
absolute_neg (inf s) = refl
absolute_neg (fin s m e) = refl

absolute-plain : (a c : ℕ) → absolute (round binary64 false a c) ≡ round binary64 false a c
absolute-plain a c = absolute_of (round binary64 false a c) (round_plus binary64 a c).sign

absolute_round : (s : Bool) (a c : ℕ) → absolute (round binary64 s a c) ≡ round binary64 false a c
absolute_round false a c = absolute-plain a c
absolute_round true a c = ap absolute (round_neg binary64 a c) ∙ absolute_neg (round binary64 false a c) ∙ absolute-plain a c

-- a choice of two roundings of one size
first_round : (b s t : Bool) (n m c : ℕ) → (b ≡ false → m ≡ n) → absolute (cond b (round binary64 s n c) (round binary64 t m c)) ≡ round binary64 false n c
first_round true s t n m c e = absolute_round s n c
first_round false s t n m c e = absolute_round t m c ∙ ap (λ (z : ℕ). round binary64 false z c) (e refl)

second_round : (b s t : Bool) (n m c : ℕ) → (b ≡ true → n ≡ m) → absolute (cond b (round binary64 s n c) (round binary64 t m c)) ≡ round binary64 false m c
second_round true s t n m c e = absolute_round s n c ∙ ap (λ (z : ℕ). round binary64 false z c) (e refl)
second_round false s t n m c e = absolute_round t m c

-- each way round, by the larger
same_size : (s t u v : Bool) (a b c : ℕ) → absolute (cond (ltb a b) (round binary64 s (b - a) c) (round binary64 t (a - b) c))
    ≡ absolute (cond (ltb b a) (round binary64 u (a - b) c) (round binary64 v (b - a) c))
same_size s t u v a b c = ⊎_elim
    (λ (l : a < b).
    first_round (ltb a b) s t (b - a) (a - b) c (λ e. absurd (omega (arith, ltb-false a b e)))
    ∙ sym (second_round (ltb b a) u v (a - b) (b - a) c (λ e. absurd (omega (arith, ltb-true b a e)))))
    (λ (l : b ≤ a).
    second_round (ltb a b) s t (b - a) (a - b) c (λ e. absurd (omega (arith, ltb-true a b e)))
    ∙ sym (first_round (ltb b a) u v (a - b) (b - a) c (λ e. omega (arith, ltb-false b a e))))
    (lt_or_le a b)

-- |a - b| is |b - a|: each way round, one rounding of one size
turned_round : (s t : Bool) (a b c : ℕ) → absolute (sum binary64 s a (not t) b c) ≡ absolute (sum binary64 t b (not s) a c)
unfolding sum
turned_round false true a b c =
    ap (λ (z : ℕ). absolute (round binary64 false z c)) (add_comm a b) ∙ absolute_round false (b + a) c ∙ sym (absolute_round true (b + a) c)
turned_round true false a b c =
    ap (λ (z : ℕ). absolute (round binary64 true z c)) (add_comm a b) ∙ absolute_round true (b + a) c ∙ sym (absolute_round false (b + a) c)
turned_round false false a b c = same_size true false true false a b c
turned_round true true a b c = same_size false (ltb b a) false (ltb a b) a b c

turned_about : (x y : Float) → T (finite x) → T (finite y) → absolute (sub binary64 x y) ≡ absolute (sub binary64 y x)
unfolding sub add neg
turned_about nan y p q = absurd p
turned_about (inf s) y p q = absurd p
turned_about (fin s m e) nan p q = absurd q
turned_about (fin s m e) (inf t) p q = absurd q
turned_about (fin s m e) (fin t n d) p q =
    turned_round s t (m * up e * down d) (n * up d * down e) (down e * down d)
    ∙ ap (λ (c : ℕ). absolute (sum binary64 t (n * up d * down e) (not s) (m * up e * down d) c)) (mul_comm (down e) (down d))

-- ---- the distance of two values, one after the other in the total order

module _ (x y : Float) (f : T (fits binary64 x)) (g : T (fits binary64 y)) (p : T (finite x)) (q : T (finite y)) (h : key x ≤ key y) where
  pub ahead : le x y ≡ true
  ahead = key_le x y f g (finite_not_nan x p) (finite_not_nan y q) h

  pub ahead_plus : Plus (y ⊖ x)
  ahead_plus = forward x y f g p q h (true→T (le x y) ahead)

  pub distance-after : distance x y ≡ y ⊖ x
  unfolding distance
  distance-after = absolute_of (y ⊖ x) ahead_plus.sign

  pub distance-before : distance y x ≡ y ⊖ x
  unfolding distance
  distance-before = turned_about x y p q ∙ absolute_of (y ⊖ x) ahead_plus.sign

absolute-fits : (x : Float) → T (fits binary64 x) → T (fits binary64 (absolute x))
unfolding absolute fits
absolute-fits nan f = tt
absolute-fits (inf s) f = tt
absolute-fits (fin s m e) f = fits-sign s false m e f

-- a distance is a value of the format
pub distance-fits : (m v : Float) → T (fits binary64 (distance m v))
unfolding distance
distance-fits m v = absolute-fits (v ⊖ m) (sub-fits binary64 v m)

-- ---- a zero's sign

nothing : (d : ℕ) → 0 * 1 * d ≡ 0
nothing d = ap (λ (z : ℕ). z * d) (zero-mul 1) ∙ zero-mul d

-- nothing and b, each with its sign: b, rounded
zero-sum : (s t : Bool) (a b c : ℕ) → a ≡ 0 → absolute (sum binary64 s a t b c) ≡ round binary64 false b c
unfolding sum
zero-sum false false a b c z = absolute_round false (a + b) c ∙ ap (λ (n : ℕ). round binary64 false n c) (omega arith)
zero-sum true true a b c z = absolute_round true (a + b) c ∙ ap (λ (n : ℕ). round binary64 false n c) (omega arith)
zero-sum false true a b c z =
    first_round (ltb a b) true false (b - a) (a - b) c (λ e. omega (arith, ltb-false a b e)) ∙ ap (λ (n : ℕ). round binary64 false n c) (omega arith)
zero-sum true false a b c z =
    first_round (ltb a b) false (ltb b a) (b - a) (a - b) c (λ e. omega (arith, ltb-false a b e)) ∙ ap (λ (n : ℕ). round binary64 false n c) (omega arith)

zero_less : (s : Bool) (y : Float) → T (finite y) → absolute (sub binary64 (fin s 0 (pos 0)) y) ≡ absolute (sub binary64 (fin false 0 (pos 0)) y)
unfolding sub add neg
zero_less s nan q = absurd q
zero_less s (inf t) q = absurd q
zero_less s (fin t n d) q =
    zero-sum s (not t) (0 * 1 * down d) (n * up d * 1) (1 * down d) (nothing (down d))
    ∙ sym (zero-sum false (not t) (0 * 1 * down d) (n * up d * 1) (1 * down d) (nothing (down d)))

module _ (P : Float → Type 0) where
  -- what holds of a value, and of +0 where it is a zero, holds of it with one zero
  as_plain : (x : Float) → T (fits binary64 x) → ((s : Bool) → P (fin s 0 (pos 0)) → P (fin false 0 (pos 0))) → P x → P (one_zero x)
  unfolding one_zero
  as_plain x f h p = by_pick P (eq x nought) nought x
      (λ e. subst P (sym nought-is)
      (only_zeros (λ (z : Float). T (fits binary64 z) → P z → P (fin false 0 (pos 0))) (λ s d g. rw (zero-plain s d g) (h s)) x (rw nought-is at e) f p))
      (λ e. p)

plain_less : (x y : Float) → Proper x → T (finite y) → absolute (x ⊖ y) ≡ absolute (one_zero x ⊖ y)
plain_less x y h q = as_plain (λ (z : Float). absolute (x ⊖ y) ≡ absolute (z ⊖ y)) x h.fit (λ s e. e ∙ zero_less s y q) refl

-- a distance doesn't see it
distance-plain : (m x : Float) → Proper m → Proper x → distance m x ≡ distance (one_zero m) (one_zero x)
unfolding distance
distance-plain m x h k =
    turned_about x m k.ends h.ends ∙ plain_less m x h k.ends ∙ turned_about (one_zero m) x (plain-is m h).proper.ends k.ends
    ∙ plain_less x (one_zero m) k (plain-is m h).proper.ends

distances_plain : (m : Float) (xs : List Float) → Proper m → Each Proper xs → map (distance m) xs ≡ map (distance (one_zero m)) (map one_zero xs)
distances_plain m [] h none = refl
distances_plain m (x ∷ xs) h (more k r) =
    ap (λ (d : Float). d ∷ map (distance m) xs) (distance-plain m x h k)
    ∙ ap (λ (ds : List Float). distance (one_zero m) (one_zero x) ∷ ds) (distances_plain m xs h r)

pub mad_plain : (xs : List Float) (m : Float) → Proper m → Each Proper xs → mad_of xs m ≡ mad_of (map one_zero xs) (one_zero m)
unfolding mad_of
mad_plain xs m h k = ap median_of (distances_plain m xs h k)

-- nor a sum with a value whose sign is plus
zero_more : (s : Bool) (a b c : ℕ) → a ≡ 0 → sum binary64 s a false b c ≡ round binary64 false b c
unfolding sum
zero_more false a b c z = ap (λ (n : ℕ). round binary64 false n c) (omega arith)
zero_more true a b c z = ⊎_elim
    (λ (e : ltb a b ≡ true). rw e (ap (λ (n : ℕ). round binary64 false n c) (omega arith)))
    (λ (e : ltb a b ≡ false). rw (e, le-ltb b a (omega arith)) (ap (λ (n : ℕ). round binary64 false n c) (omega (arith, ltb-false a b e))))
    (which (ltb a b))

zero_plus : (s : Bool) (y : Float) → T (is_plus y) → add binary64 (fin s 0 (pos 0)) y ≡ add binary64 (fin false 0 (pos 0)) y
unfolding add is_plus
zero_plus s nan q = absurd q
zero_plus s (inf true) q = absurd q
zero_plus s (inf false) q = refl
zero_plus s (fin true n d) q = absurd q
zero_plus s (fin false n d) q =
    zero_more s (0 * 1 * down d) (n * up d * 1) (1 * down d) (nothing (down d))
    ∙ sym (zero_more false (0 * 1 * down d) (n * up d * 1) (1 * down d) (nothing (down d)))

pub plain_plus : (x y : Float) → T (fits binary64 x) → Plus y → x ⊕ y ≡ one_zero x ⊕ y
plain_plus x y f p = as_plain (λ (z : Float). x ⊕ y ≡ z ⊕ y) x f (λ s e. e ∙ zero_plus s y p.sign) refl
