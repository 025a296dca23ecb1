-- What the code of `round_of` and `ceil_of` computes is the definition, and how large it is. Below 2 ^ 52 the double of x is exact, so
-- that halving its whole part upwards rounds half up; from 2 ^ 52 on a value of the format is whole. Assumes nothing.
use Rattle.std.proofs.Common.{◌≡◌, ℕ, zero, suc, ◌+◌, ◌-◌, ◌*◌, ◌/◌, ◌%◌, ◌^◌, ◌<◌, ◌≤◌, min, Bool, true, false, cond, ◌&&◌, T, eqb, ltb, leb, ℤ, pos, negsuc, sym, refl, ap, ◌∙◌, subst, zero-le, le_trans, le_of_eq, lt_of_lt_of_le, le_of_suc-le-suc, lt_irrefl, mul-le-mul_right, mod-lt, mul_assoc, suc-mul, mul_comm, div-lt_iff_lt-mul, add-mul, lt_of_mul-lt-mul_right, mul-le-mul_left, mul-lt-mul_of_pos_right, mul-pos, one-mul, div-add-mod', le-div_iff_mul-le, mul-one, mul_right_comm, div-mul-le_self, mul_left_comm, arith, lit<, lit≤, eqb→eq, ltb→lt, leb→le, pow_pos, pow_mono, pow-add, ltb-false, ltb-true, le-ltb, lt-ltb}
use Prim.Native.Nat.{compare}
use native.Mathlib.Nat.{add-div_right, div-div-eq-div-mul}
use native.Mathlib.Decide.{dec_lt, dec_le}
use lib.Pow.{pow-lt}
use lib.Ieee.{Float, nan, inf, fin, binary64, add, sum, round, units, odd, size, nearest, lt, of_int, of_bits, to_unsigned, fits, up, down}
use lib.Ieee.Exact.{HasValue, round_exact}
use lib.Ieee.Fits.{down_pos, and_l, and_r}
use lib.Ieee.Nearest.{div_same}
use lib.Ieee.Back.{round_whole}
use Rattle.numbers.specs.Rounded.{pick, bits, real}
use Rattle.numbers.proofs.Tests.{true_not_false}
use Rattle.floats.specs.Wholes.{most, nearest_over, ceiling_over, round_of, ceil_of}

-- what has the value a / c is cut to a / c
value_cut : (x : Float) (a c : ℕ) → 0 < c → HasValue x false a c → a / c < 2 ^ 64 → to_unsigned 64 x ≡ a / c
unfolding to_unsigned
value_cut nan a c p v h = absurd v
value_cut (inf s) a c p v h = absurd v
value_cut (fin true m e) a c p v h = absurd (subst T v.0 tt)
value_cut (fin false m e) a c p v h =
    let q : m * up e / down e ≡ a / c = div_same (m * up e) (down e) a c (down_pos e) p v.1 in
    omega arith

cut : (m : ℕ) (e : ℤ) → m * up e / down e < 2 ^ 64 → to_unsigned 64 (fin false m e) ≡ m * up e / down e
unfolding to_unsigned
cut m e h = omega arith

-- ---- up
div_is : (n d k : ℕ) → 0 < d → k * d ≤ n → n < (k + 1) * d → n / d ≡ k
div_is n d k p lo hi =
    let a : n / d < k + 1 = (div-lt_iff_lt-mul p).1 hi in
    let b : k ≤ n / d = (le-div_iff_mul-le p).1 lo in
    omega arith

one_more : (k d : ℕ) → (k + 1) * d ≡ k * d + d
one_more k d = rw (add-mul, one-mul)

ltb_scale : (x y d : ℕ) → 0 < d → ltb (x * d) (y * d) ≡ ltb x y
ltb_scale x y d p = go (dec_lt x y)
  where
    go : Dec (x < y) → ltb (x * d) (y * d) ≡ ltb x y
    go (yes h) = rw (lt-ltb x y h) (lt-ltb _ _ (mul-lt-mul_of_pos_right h p))
    go (no h) = let k : y ≤ x = omega arith in rw (le-ltb x y k) (le-ltb _ _ (mul-le-mul_right d k))

up_law : (a d : ℕ) (b : Bool) → 0 < d → ltb (a / d * d) a ≡ b → pick b (a / d + 1) (a / d) ≡ (a + d - 1) / d
up_law a d true p h =
    sym (div_is (a + d - 1) d (a / d + 1) p (omega (arith, one_more (a / d) d, ltb-true (a / d * d) a h, div-add-mod' a d, mod-lt a p))
    (omega (arith, one_more (a / d) d, one_more (a / d + 1) d, div-add-mod' a d, mod-lt a p)))
up_law a d false p h =
    sym (div_is (a + d - 1) d (a / d) p (omega (arith, div-add-mod' a d)) (omega (arith, one_more (a / d) d, ltb-false (a / d * d) a h, div-mul-le_self a d)))

below_law : (t m : ℕ) (e : ℤ) (y : Float) → HasValue y false t 1 → lt y (fin false m e) ≡ ltb (t * down e) (m * up e)
unfolding lt
below_law t m e nan v = absurd v
below_law t m e (inf s) v = absurd v
below_law t m e (fin true n d) v = absurd (subst T v.0 tt)
below_law t m e (fin false n d) v =
    let q : n * up d * down e ≡ t * down e * down d = ap (λ (x : ℕ). x * down e) (sym (mul-one (n * up d)) ∙ v.1) ∙ mul_right_comm t (down d) (down e) in
    rw q (ltb_scale (t * down e) (m * up e) (down d) (down_pos d))

ceil_small : (m : ℕ) (e : ℤ) → m * up e / down e < 2 ^ 52 → pick (lt (real (m * up e / down e)) (fin false m e)) (m * up e / down e + 1)
    (m * up e / down e) ≡ ceiling_over (m * up e) (down e)
unfolding of_int
ceil_small m e h =
    rw (below_law (m * up e / down e) m e _ (round_whole binary64 false (m * up e / down e) (omega arith)))
    (up_law (m * up e) (down e) _ (down_pos e) refl)

-- ---- half up
mul-two : (n : ℕ) → n * 2 ≡ n + n
mul-two n = omega arith

pow_le_back : (a l : ℕ) → 2 ^ a ≤ 2 ^ l → a ≤ l
pow_le_back a l h = go (dec_le a l)
  where
    go : Dec (a ≤ l) → a ≤ l
    go (yes k) = k
    go (no k) = absurd (lt_irrefl (2 ^ l) (lt_of_lt_of_le (pow-lt (omega arith)) h))

twice_out : (x d l w : ℕ) → x * l ≡ w * d → (x * d + x * d) * l ≡ w * 2 * (d * d)
twice_out x d l w e =
    let a : x * d * l ≡ w * d * d = mul_right_comm x d l ∙ ap (λ (y : ℕ). y * d) e in
    let b : w * 2 * (d * d) ≡ w * d * d + w * d * d = mul_right_comm w 2 (d * d) ∙ ap (λ (y : ℕ). y * 2) (sym (mul_assoc w d d)) ∙ mul-two (w * d * d) in
    add-mul (x * d) (x * d) l ∙ ap (λ (y : ℕ). y + y) a ∙ sym b

place : (e : ℤ) → down e ≤ 2 ^ 1074 → (j : ℕ) × ((m : ℕ) → m * up e * 2 ^ 1074 ≡ m * 2 ^ j * down e)
place (pos k) h = (k + 1074, λ m. mul_assoc m (2 ^ k) (2 ^ 1074) ∙ ap (λ (x : ℕ). m * x) (sym (pow-add 2 k 1074)) ∙ sym (mul-one (m * 2 ^ (k + 1074))))
place (negsuc k) h =
    let l : suc k ≤ 1074 = pow_le_back (suc k) 1074 h in
    let z : 1074 ≡ 1074 - suc k + suc k = omega arith in (
      1074 - suc k,
      λ m. ap (λ (x : ℕ). x * 2 ^ 1074) (mul-one m) ∙ ap (λ (x : ℕ). m * x) (ap (λ (x : ℕ). 2 ^ x) z ∙ pow-add 2 (1074 - suc k) (suc k))
          ∙ sym (mul_assoc m (2 ^ (1074 - suc k)) (2 ^ suc k)),
    )

room : (w a d : ℕ) → 0 < d → w * d ≡ a * 2 ^ 1074 → a < 2 ^ 62 * d → w * 2 < 2 ^ 2098
room w a d p e c =
    let h : w * d < 2 ^ 62 * 2 ^ 1074 * d = rw e (lt_of_lt_of_le (mul-lt-mul_of_pos_right c (pow_pos 1074))
    (le_of_eq (mul_right_comm (2 ^ 62) d (2 ^ 1074)))) in
    let g : w < 2 ^ 1136 = lt_of_mul-lt-mul_right d h in
    lt_of_lt_of_le (mul-lt-mul_of_pos_right g (lit< tt)) (lit≤ tt)

-- x + x is exact, for x below 2 ^ 62
double : (m : ℕ) (e : ℤ) → m < 2 ^ 53 → down e ≤ 2 ^ 1074 → m * up e < 2 ^ 62 * down e
    → HasValue (add binary64 (fin false m e) (fin false m e)) false (m * up e * down e + m * up e * down e) (down e * down e)
unfolding add sum
double m e a b c =
    let p = place e b in
    let w = m * 2 ^ p.0 in
    let n : m * 2 ^ (p.0 + 1) ≡ w * 2 = ap (λ (y : ℕ). m * y) (pow-add 2 p.0 1) ∙ sym (mul_assoc m (2 ^ p.0) 2) in
    round_exact binary64 false (m * up e * down e + m * up e * down e) (down e * down e) m (p.0 + 1) (mul-pos (down_pos e) (down_pos e)) a
    (rw n (room w (m * up e) (down e) (down_pos e) (sym (p.1 m)) c))
    (twice_out (m * up e) (down e) (2 ^ 1074) w (p.1 m) ∙ ap (λ (y : ℕ). y * (down e * down e)) (sym n))

half_law : (a d : ℕ) → 0 < d → (a + a) / d / 2 + (a + a) / d % 2 ≡ (2 * a + d) / (2 * d)
half_law a d p =
    let e : (a + a) / d / 2 + (a + a) / d % 2 ≡ ((a + a) / d + 1) / 2 = omega arith in
    let f : (a + a + d) / d ≡ (a + a) / d + 1 = add-div_right (a + a) p in
    let g : a + a ≡ 2 * a = omega arith in
    e ∙ rw (← f, div-div-eq-div-mul (a + a + d) d 2, g, mul_comm d 2)

ands : (a b c d : Bool) → T (a && b && c && d) → T b × T c
ands a b c d t = let u = and_l (a && b && c) d t in (and_r a b (and_l (a && b) c u), and_r (a && b) c u)

small : (m : ℕ) (e : ℤ) → T (fits binary64 (fin false m e)) → (m < 2 ^ 53) × (down e ≤ 2 ^ 1074)
unfolding fits
small zero (pos k) f = (lit< tt, lit≤ tt)
small zero (negsuc k) f = (lit< tt, absurd (one-not k (eqb→eq _ _ f)))
  where
    one-not : (k : ℕ) → 1 * 2 ^ suc k ≡ 1 → ⊥
    one-not k q = let p : 2 ^ 0 < 2 ^ suc k = pow-lt {i = 0} {j = suc k} (omega arith) in omega arith
small (suc m) e f =
    let t = ands (eqb (suc m % 2) 1) (ltb (suc m) (2 ^ 53)) (leb (down e) (2 ^ 1074)) (ltb (suc m * up e) (2 ^ 1024 * down e)) f in
    (ltb→lt _ _ t.0, leb→le _ _ t.1)

-- ---- from 2 ^ 52 on a value is whole

whole_above : (m : ℕ) (e : ℤ) → T (fits binary64 (fin false m e)) → 2 ^ 52 * down e ≤ m * up e → down e ≡ 1
whole_above m (pos k) f h = refl
whole_above m (negsuc k) f h = absurd (none k (small m (negsuc k) f).0 (rw mul-one at h))
  where
    none : (k : ℕ) → m < 2 ^ 53 → 2 ^ 52 * 2 ^ suc k ≤ m → ⊥
    none k l h = lt_irrefl m (lt_of_lt_of_le l (le_trans (le_trans (lit≤ {m = 2 ^ 53} {n = 2 ^ 52 * 2 ^ 1} tt) (mul_le k)) h))
      where
        mul_le : (k : ℕ) → 2 ^ 52 * 2 ^ 1 ≤ 2 ^ 52 * 2 ^ suc k
        mul_le k = let g : 2 ^ 1 ≤ 2 ^ suc k = pow_mono {i = 1} {j = suc k} (omega arith) in mul-le-mul_left (2 ^ 52) g

-- ---- the code

two52 : bits 0x4330_0000_0000_0000 ≡ fin false 1 (pos 52)
unfolding of_bits
two52 = refl

below_52 : (m : ℕ) (e : ℤ) (b : Bool) → lt (fin false m e) (fin false 1 (pos 52)) ≡ b → ltb (m * up e) (2 ^ 52 * down e) ≡ b
unfolding lt
below_52 m e b h = rw (mul-one, one-mul) at h

-- a negative value, rounded, is cut to 0
units_cut : (q k : ℕ) → to_unsigned 64 (units binary64 true q k) ≡ 0
unfolding units odd to_unsigned
units_cut q k = go (ltb (q * 2 ^ k) (2 ^ 2098)) q
  where
    go : (b : Bool) (q : ℕ) → to_unsigned 64 (cond b (odd 54 true q k 1074) (inf true)) ≡ 0
    go true zero = refl
    go true (suc q) = refl
    go false q = refl

minus_cut : (num den : ℕ) → to_unsigned 64 (round binary64 true num den) ≡ 0
unfolding round
minus_cut num den =
    let n = num * 2 ^ 1074 in
    let k = size (n / den) - 53 in
    let u = den * 2 ^ k in
    units_cut (nearest (n / u) (compare (n % u * 2) u)) k

held_back : (n k : ℕ) → n ≤ k → k < 2 ^ 64 → n ≡ min n most
held_back n k h l = omega arith

half_exact : (m : ℕ) (e : ℤ) → T (fits binary64 (fin false m e)) → m * up e < 2 ^ 52 * down e →
    to_unsigned 64 (add binary64 (fin false m e) (fin false m e)) ≡ (m * up e + m * up e) / down e
half_exact m e f h =
    let b = small m e f in
    let d = down_pos e in
    let v = double m e b.0 b.1 (omega arith) in
    let q : (m * up e * down e + m * up e * down e) / (down e * down e) ≡ (m * up e + m * up e) / down e =
    div_same _ _ (m * up e + m * up e) (down e) (mul-pos d d) d
    (ap (λ (y : ℕ). y * down e) (sym (add-mul (m * up e) (m * up e) (down e))) ∙ mul_assoc (m * up e + m * up e) (down e) (down e)) in
    let l : (m * up e + m * up e) / down e < 2 ^ 64 = (div-lt_iff_lt-mul d).1 (omega arith) in
    let l2 : (m * up e * down e + m * up e * down e) / (down e * down e) < 2 ^ 64 = rw q l in
    value_cut _ _ _ (mul-pos d d) v l2 ∙ q

-- half up from the double, for x below 2 ^ 52
pub round_below : (x : Float) → T (fits binary64 x) → lt x (bits 0x4330_0000_0000_0000) ≡ true →
    to_unsigned 64 (add binary64 x x) / 2 + to_unsigned 64 (add binary64 x x) % 2 ≡ round_of x
round_below nan f h = unfold to_unsigned add round_of in refl
round_below (inf true) f h = unfold to_unsigned add round_of in refl
round_below (inf false) f h = true_not_false (lt (inf false) (bits 0x4330_0000_0000_0000)) h (unfold lt of_bits in refl)
round_below (fin true m e) f h =
    let z : to_unsigned 64 (add binary64 (fin true m e) (fin true m e)) ≡ 0 =
    unfold add sum in minus_cut (m * up e * down e + m * up e * down e) (down e * down e) in
    rw z (unfold round_of in refl)
round_below (fin false m e) f h =
    let l = ltb-true (m * up e) (2 ^ 52 * down e) (below_52 m e true (rw two52 at h)) in
    let d = down_pos e in
    let n : nearest_over (m * up e) (down e) < 2 ^ 53 = (div-lt_iff_lt-mul (mul-pos (lit< {m = 0} {n = 2} tt) d)).1
    (omega (arith, mul_left_comm (2 ^ 53) 2 (down e))) in
    let r : min (nearest_over (m * up e) (down e)) most ≡ round_of (fin false m e) = unfold round_of in refl in
    rw (half_exact m e f l) (half_law (m * up e) (down e) d ∙ held_back _ (2 ^ 53) (omega arith) (lit< tt) ∙ r)

-- from 2 ^ 52 on x is whole
pub round_above : (x : Float) → T (fits binary64 x) → lt x (bits 0x4330_0000_0000_0000) ≡ false → to_unsigned 64 x ≡ round_of x
unfolding round_of to_unsigned
round_above nan f h = refl
round_above (inf true) f h = refl
round_above (inf false) f h = refl
round_above (fin true m e) f h = refl
round_above (fin false m e) f h =
    let l = ltb-false (m * up e) (2 ^ 52 * down e) (below_52 m e false (rw two52 at h)) in
    let w = whole_above m e f l in
    rw w (omega arith)

-- the whole part, and one more where it is below x
pub ceil_below : (x : Float) (b : Bool) → T (fits binary64 x) → to_unsigned 64 x < 2 ^ 52 → lt (real (to_unsigned 64 x)) x ≡ b →
    pick b (to_unsigned 64 x + 1) (to_unsigned 64 x) ≡ ceil_of x
unfolding to_unsigned ceil_of
ceil_below nan b f l h = rw (← h) (unfold lt of_int in refl)
ceil_below (inf true) b f l h = rw (← h) (unfold lt of_int in refl)
ceil_below (inf false) b f l h = absurd (omega arith)
ceil_below (fin true m e) b f l h = rw (← h) (unfold lt of_int in refl)
ceil_below (fin false m e) b f l h =
    let d = down_pos e in
    let t : min (m * up e / down e) (2 ^ 64 - 1) ≡ m * up e / down e = omega arith in
    let u : m * up e / down e < 2 ^ 52 = omega arith in
    let v : m * up e < 2 ^ 52 * down e = (div-lt_iff_lt-mul d).0 u in
    let w : ceiling_over (m * up e) (down e) < 2 ^ 53 = (div-lt_iff_lt-mul d).1 (omega (arith, d)) in
    rw (t, ← (rw t at h)) (ceil_small m e u ∙ held_back _ (2 ^ 53) (omega arith) (lit< tt))

-- from 2 ^ 52 on x is whole
pub ceil_above : (x : Float) → T (fits binary64 x) → 2 ^ 52 ≤ to_unsigned 64 x → to_unsigned 64 x ≡ ceil_of x
unfolding to_unsigned ceil_of
ceil_above nan f h = refl
ceil_above (inf true) f h = refl
ceil_above (inf false) f h = refl
ceil_above (fin true m e) f h = refl
ceil_above (fin false m e) f h =
    let u : 2 ^ 52 ≤ m * up e / down e = omega arith in
    let w = whole_above m e f ((le-div_iff_mul-le (down_pos e)).0 u) in
    rw w (omega arith)

-- ---- how large they are: at most N where x is, and at least N where x is

nearest_le : (N a d : ℕ) → 0 < d → a ≤ N * d → nearest_over a d ≤ N
nearest_le N a d p h = le_of_suc-le-suc ((div-lt_iff_lt-mul (mul-pos (lit< {m = 0} {n = 2} tt) p)).1 (omega (arith, suc-mul N (2 * d), mul_left_comm N 2 d)))

ceiling_le : (N a d : ℕ) → 0 < d → a ≤ N * d → ceiling_over a d ≤ N
ceiling_le N a d p h = le_of_suc-le-suc ((div-lt_iff_lt-mul p).1 (omega (arith, suc-mul N d)))

pub round_most : (N : ℕ) (s : Bool) (m : ℕ) (e : ℤ) → m * up e ≤ N * down e → round_of (fin s m e) ≤ N
unfolding round_of
round_most N true m e h = zero-le
round_most N false m e h = omega (arith, nearest_le N (m * up e) (down e) (down_pos e) h)

pub ceil_most : (N : ℕ) (s : Bool) (m : ℕ) (e : ℤ) → m * up e ≤ N * down e → ceil_of (fin s m e) ≤ N
unfolding ceil_of
ceil_most N true m e h = zero-le
ceil_most N false m e h = omega (arith, ceiling_le N (m * up e) (down e) (down_pos e) h)

-- where x is not negative
nearest_ge : (N a d : ℕ) → 0 < d → N * d ≤ 1 * a → N ≤ nearest_over a d
nearest_ge N a d p h = (le-div_iff_mul-le (mul-pos (lit< {m = 0} {n = 2} tt) p)).1 (omega (arith, mul_left_comm N 2 d))

ceiling_ge : (N a d : ℕ) → 0 < d → N * d ≤ 1 * a → N ≤ ceiling_over a d
ceiling_ge N a d p h = (le-div_iff_mul-le p).1 (omega arith)

pub round_least : (N m : ℕ) (e : ℤ) → N < 2 ^ 64 → N * down e ≤ 1 * (m * up e) → N ≤ round_of (fin false m e)
unfolding round_of
round_least N m e l h = omega (arith, nearest_ge N (m * up e) (down e) (down_pos e) h)

pub ceil_least : (N m : ℕ) (e : ℤ) → N < 2 ^ 64 → N * down e ≤ 1 * (m * up e) → N ≤ ceil_of (fin false m e)
unfolding ceil_of
ceil_least N m e l h = omega (arith, ceiling_ge N (m * up e) (down e) (down_pos e) h)

-- ---- in whole numbers, where the result fits 64 bits: the whole part of x + 1/2, and the ceiling

pub round_is : (m : ℕ) (e : ℤ) → m * up e < 2 ^ 63 * down e → round_of (fin false m e) ≡ (2 * (m * up e) + down e) / (2 * down e)
unfolding round_of
round_is m e h = omega (arith, nearest_le (2 ^ 63) (m * up e) (down e) (down_pos e) (omega arith))

pub ceil_is : (m : ℕ) (e : ℤ) → m * up e < 2 ^ 63 * down e → ceil_of (fin false m e) ≡ (m * up e + down e - 1) / down e
unfolding ceil_of
ceil_is m e h = omega (arith, ceiling_le (2 ^ 63) (m * up e) (down e) (down_pos e) (omega arith))
