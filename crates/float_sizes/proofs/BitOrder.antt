-- The bits of values with a plus sign grow with the values, so a bound on the bits is a bound on the size, either way.
-- It is the total order's `key_lt` on values with the sign plus. Assumes nothing.
use mathlib.Core.Path.{◌≡◌, refl, sym, ◌∙◌, subst}
use mathlib.Core.Logic.{⊎_elim}
use mathlib.Core.Bool.{Bool, true, false, not}
use Prim.Native.Nat.{ℕ, ◌+◌, ◌*◌, ◌%◌, ◌^◌, ◌≤◌, ◌<◌}
use native.Mathlib.Nat.{le_trans, le_of_eq, mul_comm}
use native.Mathlib.Omega.{arith}
use lib.Dec.{T, lit≤}
use lib.IntN.{ℤ}
use lib.Ieee.{Float, nan, inf, fin, binary64, up, down, lt, fits, is_nan, to_bits}
use lib.Pow.{pow_pos}
use lib.Ieee.Fits.{down_pos}
use lib.Ieee.Bits.{to_bits-of_bits, of_bits-fits, nan_bits_is}
use lib.Ieee.Positive.{through}
use lib.Ieee.Scale.{finite}
use borrow.Author.Tests.{ltb-false}
use Rattle.numbers.specs.Rounded.{bits}
use Rattle.sizes.specs.Sizes.{AtLeast, size_from, is_plus, Plus}
use Rattle.floats.specs.TotalOrder.{key}
use Rattle.floats.proofs.Patterns.{no_nan_bits, nan_bits_lem}
use Rattle.floats.proofs.TotalOrder.{turned-at, key_lt, bits_fin, mag_small, mag_inf, mag_mono, units_mono, fits-sign, units}
use Rattle.float_sizes.specs.Fractions.{parts_up_to, Under}

-- ---- the order

key_plus : (x : Float) → to_bits binary64 x < 2 ^ 63 → key x ≡ to_bits binary64 x + 2 ^ 63
unfolding key
key_plus x h = ⊎_elim (λ w. omega (arith, w)) (λ w. omega (arith, w)) (turned-at (to_bits binary64 x))

bits_not_lt : (x y : Float) → T (fits binary64 x) → T (fits binary64 y) → to_bits binary64 x < 2 ^ 63 → to_bits binary64 y < 2 ^ 63
    → to_bits binary64 x ≤ to_bits binary64 y → lt y x ≡ false
bits_not_lt x y f g a b h = go (lt y x) refl
  where
    go : (t : Bool) → lt y x ≡ t → t ≡ false
    go false e = refl
    go true e = absurd (omega (arith, key_lt y x g f (subst T (sym e) tt), key_plus x a, key_plus y b))

-- ---- the float of some bits below an infinity's: finite, with a plus sign

not_nan : (b : ℕ) → b < 0x7FF0_0000_0000_0000 → T (not (is_nan (bits b)))
not_nan b h = subst (λ (t : Bool). T (not t)) (sym (no_nan_bits b (omega arith)) ∙ nan_bits_is binary64 b) tt

pub bits_back : (b : ℕ) → b < 0x7FF0_0000_0000_0000 → to_bits binary64 (bits b) ≡ b
bits_back b h = to_bits-of_bits binary64 b (omega arith) (not_nan b h)

inf_bits : (s : Bool) → 0x7FF0_0000_0000_0000 ≤ to_bits binary64 (inf s)
unfolding to_bits
inf_bits true = lit≤ tt
inf_bits false = lit≤ tt

inf_size : (s : Bool) → to_bits binary64 (inf s) % 2 ^ 63 ≡ 0x7FF0_0000_0000_0000
unfolding to_bits
inf_size true = refl
inf_size false = refl

pub plain : (b : ℕ) → b < 0x7FF0_0000_0000_0000 → (m : ℕ) × (e : ℤ) × (bits b ≡ fin false m e)
plain b h = go (bits b) (bits_back b h) (not_nan b h)
  where
    go : (x : Float) → to_bits binary64 x ≡ b → T (not (is_nan x)) → (m : ℕ) × (e : ℤ) × (x ≡ fin false m e)
    go nan v n = absurd (unfold is_nan in n)
    go (inf s) v n = absurd (omega (arith, inf_bits s))
    go (fin true m e) v n = absurd (omega (arith, bits_fin true m e))
    go (fin false m e) v n = (m, e, refl)

-- ---- from bits to sizes. A value's bits without the sign are those of its size

size-bits : (s : Bool) (m : ℕ) (e : ℤ) → T (fits binary64 (fin s m e)) → to_bits binary64 (fin s m e) % 2 ^ 63 ≡ to_bits binary64 (fin false m e)
size-bits true m e f = omega (arith, bits_fin true m e, bits_fin false m e, mag_small true m e f)
size-bits false m e f = omega (arith, bits_fin false m e, mag_small false m e f)

-- x / e ≤ y / d in the order of the bits
crossed : (m : ℕ) (e : ℤ) (n : ℕ) (d : ℤ) → T (fits binary64 (fin false m e)) → T (fits binary64 (fin false n d))
    → to_bits binary64 (fin false m e) ≤ to_bits binary64 (fin false n d) → m * up e * down d ≤ n * up d * down e
crossed m e n d f g h =
    ltb-false (n * up d * down e) (m * up e * down d)
    (unfold lt in bits_not_lt (fin false m e) (fin false n d) f g (omega (arith, bits_fin false m e, mag_small false m e f))
    (omega (arith, bits_fin false n d, mag_small false n d g)) h)

module _ (B n : ℕ) (d : ℤ) (is : bits B ≡ fin false n d) (small : B < 0x7FF0_0000_0000_0000) where
  end_fits : T (fits binary64 (fin false n d))
  end_fits = subst (λ (y : Float). T (fits binary64 y)) is (of_bits-fits binary64 B)

  end_bits : to_bits binary64 (fin false n d) ≡ B
  end_bits = subst (λ (y : Float). to_bits binary64 y ≡ B) is (bits_back B small)

  upper_of : (p : ℕ) (x : Float) → n * up d * 2 ^ 20 ≤ p * down d → T (fits binary64 x) → to_bits binary64 x % 2 ^ 63 ≤ B → parts_up_to p x
  upper_of p nan l f h = absurd (omega (arith, nan_bits_lem))
  upper_of p (inf s) l f h = absurd (inf_over s h)
    where
      inf_over : (s : Bool) → to_bits binary64 (inf s) % 2 ^ 63 ≤ B → ⊥
      inf_over true h = omega (arith, inf_size true)
      inf_over false h = omega (arith, inf_size false)
  upper_of p (fin s m e) l f h =
      through (m * up e) (n * up d) p (down e) (down d) (2 ^ 20) (down_pos d)
      (crossed m e n d (fits-sign s false m e f) end_fits (omega (arith, size-bits s m e f, end_bits))) l

  pub bits_upper : {x : Float} (p : ℕ) → n * up d * 2 ^ 20 ≤ p * down d → T (fits binary64 x) → to_bits binary64 x % 2 ^ 63 ≤ B → Under p x
  bits_upper {x} p l f h = record { size = upper_of p x l f h }

  lower_of : (p q : ℕ) (x : Float) → p * down d ≤ n * up d * q → T (fits binary64 x) → T (not (is_nan x)) → B ≤ to_bits binary64 x % 2 ^ 63 → size_from p q x
  lower_of p q nan l f k h = absurd (unfold is_nan in k)
  lower_of p q (inf s) l f k h = tt
  lower_of p q (fin s m e) l f k h =
      le_trans
      (through p (n * up d) (m * up e) q (down d) (down e) (down_pos d) l
      (crossed n d m e end_fits (fits-sign s false m e f) (omega (arith, size-bits s m e f, end_bits))))
      (le_of_eq (mul_comm (m * up e) q))

  pub bits-lower : {x : Float} (p q : ℕ) → p * down d ≤ n * up d * q → T (fits binary64 x) → T (not (is_nan x)) → B ≤ to_bits binary64 x % 2 ^ 63 → AtLeast p q x
  bits-lower {x} p q l f k h = record { size = lower_of p q x l f k h }

  -- and back: what is at most p units has no larger bits than B, whose float is at least that
  under_of : (p : ℕ) (x : Float) → p * down d ≤ n * up d * 2 ^ 20 → T (fits binary64 x) → parts_up_to p x → to_bits binary64 x % 2 ^ 63 ≤ B
  under_of p nan l f h = absurd h
  under_of p (inf s) l f h = absurd h
  under_of p (fin s m e) l f h =
      omega (
        arith,
        size-bits s m e f,
        end_bits,
        bits_fin false m e,
        bits_fin false n d,
        mag_mono (units m e) (units n d)
            (units_mono m e n d (through (m * up e) p (n * up d) (down e) (2 ^ 20) (down d) (pow_pos 20) h l)),
      )

  pub under-bits : {x : Float} (p : ℕ) → p * down d ≤ n * up d * 2 ^ 20 → T (fits binary64 x) → Under p x → to_bits binary64 x % 2 ^ 63 ≤ B
  under-bits {x} p l f h = under_of p x l f h.size

-- ---- the bits of finite values, and of values with a plus sign

pub finite-bits : (x : Float) → T (fits binary64 x) → T (finite x) → to_bits binary64 x % 2 ^ 63 < 0x7FF0_0000_0000_0000
finite-bits nan f h = absurd h
finite-bits (inf s) f h = absurd h
finite-bits (fin s m e) f h = omega (arith, size-bits s m e f, bits_fin false m e, mag_inf s m e f)

plus_of : (x : Float) → T (fits binary64 x) → T (is_plus x) → to_bits binary64 x ≤ 0x7FF0_0000_0000_0000
unfolding is_plus
plus_of nan f h = absurd h
plus_of (inf true) f h = absurd h
plus_of (inf false) f h = unfold to_bits in lit≤ tt
plus_of (fin true m e) f h = absurd h
plus_of (fin false m e) f h = omega (arith, bits_fin false m e, mag_inf false m e f)

pub plus_bits : {x : Float} → T (fits binary64 x) → Plus x → to_bits binary64 x ≤ 0x7FF0_0000_0000_0000
plus_bits {x} f h = plus_of x f h.sign

-- the bits of the float of some bits, either sign
pub bits-same : (b : ℕ) → b < 2 ^ 64 → b % 2 ^ 63 ≤ 0x7FF0_0000_0000_0000 → to_bits binary64 (bits b) ≡ b
bits-same b l h = to_bits-of_bits binary64 b l (subst (λ (t : Bool). T (not t)) (sym (no_nan_bits b h) ∙ nan_bits_is binary64 b) tt)
