-- The order of keys is IEEE's totalOrder: one key for each value, a value below another has the smaller key, and -0 stands
-- before +0. The bits of a magnitude grow with it, since it keeps its leading digits and counts the others. Assumes nothing.
use Rattle.std.proofs.Common.{◌≡◌, ℕ, zero, suc, ◌+◌, ◌-◌, ◌*◌, ◌/◌, ◌%◌, ◌^◌, ◌<◌, ◌≤◌, Bool, true, false, cond, ◌&&◌, T, eqb, ltb, leb, ◌⊎◌, ℤ, pos, sym, refl, ap, ◌∙◌, subst, inl, inr, ⊎_elim, le_trans, le_of_eq, lt_of_le_of_lt, le_of_lt, add_assoc, lt_irrefl, mul-le-mul_right, div-lt_iff_lt-mul, eq-or-lt_of_le, mul-lt-mul_of_pos_right, mul-pos, le-div_iff_mul-le, zero-mul, mul_right_comm, arith, lit<, ltb→lt, pow_pos, pow-add, ltb-false, ltb-true}
use lib.Pow.{shr_mono}
use lib.Ieee.{Float, nan, inf, fin, binary64, up, down, lt, fits, size, to_bits, of_bits}
use lib.Ieee.Digits.{size-lt, size-le, size_reaches}
use lib.Ieee.Fits.{down_pos, and_r, kept-lt}
use lib.Ieee.Nearest.{div_mono}
use lib.Ieee.Bits.{of_bits-to_bits, to_bits-lt}
use Rattle.numbers.specs.Rounded.{pick}
use Rattle.numbers.proofs.Tests.{which}
use Rattle.floats.specs.TotalOrder.{turned, key}

-- ---- the key is one-to-one

pub turned-at : (b : ℕ) → ((b < 9223372036854775808) × (turned b ≡ b + 9223372036854775808))
    ⊎ ((9223372036854775808 ≤ b) × (turned b ≡ 18446744073709551615 - b))
unfolding turned
turned-at b = go (which (ltb b 9223372036854775808))
  where
    go : (ltb b 9223372036854775808 ≡ true) ⊎ (ltb b 9223372036854775808 ≡ false) →
        ((b < 9223372036854775808) × (pick (ltb b 9223372036854775808) (b + 9223372036854775808) (18446744073709551615 - b) ≡ b + 9223372036854775808))
        ⊎ ((9223372036854775808 ≤ b) × (pick (ltb b 9223372036854775808) (b + 9223372036854775808) (18446744073709551615 - b) ≡ 18446744073709551615 - b))
    go (inl e) = inl (ltb-true _ _ e, rw e)
    go (inr e) = inr (ltb-false _ _ e, rw e)

turned_inj : (a b : ℕ) → a < 18446744073709551616 → b < 18446744073709551616 → turned a ≡ turned b → a ≡ b
turned_inj a b la lb e =
    ⊎_elim
    (λ p. ⊎_elim (λ q. omega arith) (λ q. omega arith) (turned-at b))
    (λ p. ⊎_elim (λ q. omega arith) (λ q. omega arith) (turned-at b))
    (turned-at a)

pub key_inj : (x y : Float) → T (fits binary64 x) → T (fits binary64 y) → key x ≡ key y → x ≡ y
unfolding key
key_inj x y fx fy e =
    sym (of_bits-to_bits binary64 x fx)
    ∙ ap (of_bits binary64) (turned_inj (to_bits binary64 x) (to_bits binary64 y) (to_bits-lt binary64 x fx) (to_bits-lt binary64 y fy) e)
    ∙ of_bits-to_bits binary64 y fy

-- ---- the bits of a magnitude of n units: they grow with n

abbrev pub mag : ℕ → ℕ
mag n = (size n - 53) * 4503599627370496 + n / 2 ^ (size n - 53)

mag_lt : (n : ℕ) → mag n < (size n - 53) * 4503599627370496 + 9007199254740992
mag_lt n = omega (arith, kept-lt 53 n)

mag_ge : (n : ℕ) → 53 < size n → (size n - 53) * 4503599627370496 + 4503599627370496 ≤ mag n
mag_ge n h =
    let l : 52 + (size n - 53) < size n = omega arith in
    let r : 2 ^ (52 + (size n - 53)) ≤ n = size_reaches n (52 + (size n - 53)) l in
    let q : 2 ^ 52 ≤ n / 2 ^ (size n - 53) = (le-div_iff_mul-le (pow_pos (size n - 53))).1 (le_trans (le_of_eq (sym (pow-add 2 52 (size n - 53)))) r) in
    omega arith

size_mono : (a b : ℕ) → a ≤ b → size a ≤ size b
size_mono a b h = size-le a (size b) (lt_of_le_of_lt h (size-lt b))

pub mag_mono : (a b : ℕ) → a ≤ b → mag a ≤ mag b
mag_mono a b h =
    let s = size_mono a b h in
    ⊎_elim
    (λ (e : size a - 53 ≡ size b - 53). omega (
      arith,
      ap (λ (z : ℕ). z * 4503599627370496) e,
      subst (λ (z : ℕ). a / 2 ^ (size a - 53) ≤ b / 2 ^ z) e
          (shr_mono (size a - 53) h),
    ))
    (λ (l : size a - 53 < size b - 53). omega (arith, mag_lt a, mag_ge b (omega arith)))
    (eq-or-lt_of_le (omega arith))

-- ---- a finite value's bits

abbrev pub units : ℕ → ℤ → ℕ
units m e = m * up e * 2 ^ 1074 / down e

pub bits_fin : (s : Bool) (m : ℕ) (e : ℤ) → to_bits binary64 (fin s m e) ≡ cond s 9223372036854775808 0 + mag (units m e)
unfolding to_bits
bits_fin s m e = add_assoc (cond s 9223372036854775808 0) ((size (units m e) - 53) * 4503599627370496) (units m e / 2 ^ (size (units m e) - 53))

pub fits-sign : (s t : Bool) (m : ℕ) (e : ℤ) → T (fits binary64 (fin s m e)) → T (fits binary64 (fin t m e))
unfolding fits
fits-sign s t zero e h = h
fits-sign s t (suc m) e h = h

pub mag_small : (s : Bool) (m : ℕ) (e : ℤ) → T (fits binary64 (fin s m e)) → mag (units m e) < 9223372036854775808
mag_small s m e h = omega (arith, bits_fin true m e, to_bits-lt binary64 (fin true m e) (fits-sign s true m e h))

units_lt : (s : Bool) (m : ℕ) (e : ℤ) → T (fits binary64 (fin s m e)) → units m e < 2 ^ 2098
unfolding fits
units_lt s zero e h = (div-lt_iff_lt-mul (down_pos e)).1 (subst (λ (z : ℕ). z < 2 ^ 2098 * down e)
    (sym (ap (λ (z : ℕ). z * 2 ^ 1074) (zero-mul (up e)) ∙ zero-mul (2 ^ 1074))) (mul-pos (pow_pos 2098) (down_pos e)))
units_lt s (suc m) e h =
    let A = eqb (suc m % 2) 1 in
    let B = ltb (suc m) (2 ^ 53) in
    let C = leb (down e) (2 ^ 1074) in
    let D = ltb (suc m * up e) (2 ^ 1024 * down e) in
    let l : suc m * up e < 2 ^ 1024 * down e = ltb→lt (suc m * up e) (2 ^ 1024 * down e) (and_r (A && B && C) D h) in
    (div-lt_iff_lt-mul (down_pos e)).1
    (subst (λ (z : ℕ). suc m * up e * 2 ^ 1074 < z) (mul_right_comm (2 ^ 1024) (down e) (2 ^ 1074) ∙ ap (λ (z : ℕ). z * down e) (sym (pow-add 2 1024 1074)))
    (mul-lt-mul_of_pos_right l (pow_pos 1074)))

pub mag_inf : (s : Bool) (m : ℕ) (e : ℤ) → T (fits binary64 (fin s m e)) → mag (units m e) < 9218868437227405312
mag_inf s m e h = omega (arith, mag_lt (units m e), size-le (units m e) 2098 (units_lt s m e h))

key_plus : (m : ℕ) (e : ℤ) → T (fits binary64 (fin false m e)) → key (fin false m e) ≡ 9223372036854775808 + mag (units m e)
unfolding key
key_plus m e h = ⊎_elim
    (λ w. omega (arith, w, bits_fin false m e))
    (λ w. omega (arith, w, bits_fin false m e, mag_small false m e h))
    (turned-at (to_bits binary64 (fin false m e)))

key-minus : (m : ℕ) (e : ℤ) → key (fin true m e) ≡ 9223372036854775807 - mag (units m e)
unfolding key
key-minus m e = ⊎_elim
    (λ w. omega (arith, w, bits_fin true m e))
    (λ w. omega (arith, w, bits_fin true m e))
    (turned-at (to_bits binary64 (fin true m e)))

key_top : key (inf false) ≡ 18442240474082181120
unfolding key turned to_bits
key_top = refl

key_bottom : key (inf true) ≡ 4503599627370495
unfolding key turned to_bits
key_bottom = refl

pub units_mono : (m : ℕ) (e : ℤ) (n : ℕ) (d : ℤ) → m * up e * down d ≤ n * up d * down e → units m e ≤ units n d
units_mono m e n d h =
    div_mono (m * up e * 2 ^ 1074) (down e) (n * up d * 2 ^ 1074) (down d) (down_pos e) (down_pos d)
    (le_trans (le_of_eq (mul_right_comm (m * up e) (2 ^ 1074) (down d)))
    (le_trans (mul-le-mul_right (2 ^ 1074) h) (le_of_eq (mul_right_comm (n * up d) (down e) (2 ^ 1074)))))

key_le : (x y : Float) → T (fits binary64 x) → T (fits binary64 y) → T (lt x y) → key x ≤ key y
unfolding lt
key_le nan y f g h = absurd h
key_le (inf s) nan f g h = absurd h
key_le (inf true) (inf true) f g h = absurd h
key_le (inf true) (inf false) f g h = omega (arith, key_top, key_bottom)
key_le (inf false) (inf t) f g h = absurd h
key_le (inf false) (fin t n d) f g h = absurd h
key_le (inf true) (fin true n d) f g h = omega (arith, key_bottom, key-minus n d, mag_inf true n d g)
key_le (inf true) (fin false n d) f g h = omega (arith, key_bottom, key_plus n d g)
key_le (fin s m e) nan f g h = absurd h
key_le (fin s m e) (inf true) f g h = absurd h
key_le (fin true m e) (inf false) f g h = omega (arith, key_top, key-minus m e)
key_le (fin false m e) (inf false) f g h = omega (arith, key_top, key_plus m e f, mag_inf false m e f)
key_le (fin false m e) (fin true n d) f g h = absurd h
key_le (fin false m e) (fin false n d) f g h =
    omega (
      arith,
      key_plus m e f,
      key_plus n d g,
      mag_mono (units m e) (units n d)
          (units_mono m e n d (le_of_lt (ltb→lt (m * up e * down d) (n * up d * down e) h))),
    )
key_le (fin true m e) (fin false n d) f g h = omega (arith, key-minus m e, key_plus n d g)
key_le (fin true m e) (fin true n d) f g h =
    omega (
      arith,
      key-minus m e,
      key-minus n d,
      mag_mono (units n d) (units m e)
          (units_mono n d m e (le_of_lt (ltb→lt (n * up d * down e) (m * up e * down d) h))),
    )

never_below_itself : (x : Float) → T (lt x x) → ⊥
unfolding lt
never_below_itself nan h = h
never_below_itself (inf true) h = h
never_below_itself (inf false) h = h
never_below_itself (fin true m e) h = lt_irrefl (m * up e * down e) (ltb→lt (m * up e * down e) (m * up e * down e) h)
never_below_itself (fin false m e) h = lt_irrefl (m * up e * down e) (ltb→lt (m * up e * down e) (m * up e * down e) h)

pub key_lt : (x y : Float) → T (fits binary64 x) → T (fits binary64 y) → T (lt x y) → key x < key y
key_lt x y f g h = ⊎_elim
    (λ (e : key x ≡ key y). absurd (never_below_itself y (subst (λ (z : Float). T (lt z y)) (key_inj x y f g e) h)))
    (λ l. l)
    (eq-or-lt_of_le (key_le x y f g h))

pub minus_zero_first : key (fin true 0 (pos 0)) < key (fin false 0 (pos 0))
unfolding key turned to_bits
minus_zero_first = lit< tt
