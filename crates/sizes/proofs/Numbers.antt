-- Which whole numbers and fractions a format holds, and so rounds to themselves. Assumes nothing.
use mathlib.Core.Path.{◌≡◌, refl, sym, ap, ◌∙◌, subst}
use mathlib.Core.Bool.{Bool}
use Prim.Native.Nat.{ℕ, suc, ◌+◌, ◌-◌, ◌*◌, ◌^◌, ◌≤◌, ◌<◌}
use native.Mathlib.Nat.{le_of_eq, lt_of_lt_of_le, lt_of_le_of_lt, mul_comm, mul_assoc, mul-one, one-mul, mul-le-mul_right, mul-lt-mul_of_pos_right, zero-lt-suc}
use native.Mathlib.Omega.{arith}
use lib.Dec.{lit<, lit≤}
use lib.Pow.{pow-add, pow_pos, pow-lt}
use lib.Ieee.{Format, binary32, binary64, prec, emax, low, round}
use lib.Ieee.Exact.{HasValue, round_exact}
use Rattle.sizes.specs.Sizes.{Held, HeldAt}

-- ---- whole numbers

-- c * 2 ^ k with a short c
pub held-scaled : {f : Format} (c k : ℕ) → c < 2 ^ prec f → c * 2 ^ k < 2 ^ suc (emax f) → Held f (c * 2 ^ k)
held-scaled c k h u = record { q = c; j = k; few = h; under = u; is = refl }

reach : (f : Format) → 2 ^ prec f ≤ 2 ^ suc (emax f)
reach binary32 = lit≤ tt
reach binary64 = lit≤ tt

-- a short number
pub held_short : {f : Format} {N : ℕ} → N < 2 ^ prec f → Held f N
held_short {f} {N} h = record { q = N; j = 0; few = h; under = lt_of_lt_of_le h (reach f); is = sym (mul-one N) }

one-few : (f : Format) → 1 < 2 ^ prec f
one-few binary32 = lit< tt
one-few binary64 = lit< tt

-- a power of two
pub held_power : {f : Format} (k : ℕ) → k ≤ emax f → Held f (2 ^ k)
held_power {f} k h = record { q = 1; j = k; few = one-few f; under = pow-lt (next k (emax f) h); is = sym (one-mul (2 ^ k)) }
  where
    next : (k e : ℕ) → k ≤ e → k < suc e
    next k e h = omega arith

-- in binary64: i * 2 ^ k for an i up to 2 ^ d
pub held_multiple : (d k i : ℕ) → d ≤ 52 → d + k ≤ 1023 → i ≤ 2 ^ d → Held binary64 (i * 2 ^ k)
held_multiple d k i D K h =
    let a : d < 53 = omega arith in
    let b : d + k < 1024 = omega arith in
    held-scaled i k (lt_of_le_of_lt h (pow-lt a))
    (lt_of_le_of_lt (mul-le-mul_right (2 ^ k) h) (lt_of_le_of_lt (le_of_eq (sym (pow-add 2 d k))) (pow-lt b)))

-- in binary64: i * (c * 2 ^ k) for an i up to most
pub held_terms : (most c k i : ℕ) → most * c < 2 ^ 53 → most * c * 2 ^ k < 2 ^ 1024 → i ≤ most → Held binary64 (i * (c * 2 ^ k))
held_terms most c k i D K h =
    subst (λ (n : ℕ). Held binary64 n) (mul_assoc i c (2 ^ k))
    (held-scaled (i * c) k (lt_of_le_of_lt (mul-le-mul_right c h) D) (lt_of_le_of_lt (mul-le-mul_right (2 ^ k) (mul-le-mul_right c h)) K))

-- ---- fractions

pub held_whole : {f : Format} {N : ℕ} → Held f N → HeldAt f N 1
held_whole {f} {N} h =
    let l = low f in
    let e : N * 2 ^ l ≡ h.q * 2 ^ (h.j + l) = ap (λ (x : ℕ). x * 2 ^ l) h.is ∙ mul_assoc h.q (2 ^ h.j) (2 ^ l)
    ∙ ap (λ (x : ℕ). h.q * x) (sym (pow-add 2 h.j l)) in
    record {
      q = h.q;
      j = h.j + l;
      few = h.few;
      under = lt_of_le_of_lt (le_of_eq (sym e)) (lt_of_lt_of_le (mul-lt-mul_of_pos_right h.under (pow_pos l))
          (le_of_eq (mul_comm (2 ^ suc (emax f)) (2 ^ l) ∙ sym (pow-add 2 l (suc (emax f))))));
      is = e ∙ sym (mul-one (h.q * 2 ^ (h.j + l)));
    }

-- 1 / 2 ^ k
pub held_part : {f : Format} (k : ℕ) → k ≤ low f → HeldAt f 1 (2 ^ k)
held_part {f} k h =
    let l = low f in
    let u : l - k < l + suc (emax f) = room l k (emax f) in
    record {
      q = 1;
      j = l - k;
      few = one-few f;
      under = lt_of_le_of_lt (le_of_eq (one-mul (2 ^ (l - k)))) (pow-lt u);
      is = ap (λ (z : ℕ). 1 * 2 ^ z) (sym (back l k h)) ∙ ap (λ (z : ℕ). 1 * z) (pow-add 2 (l - k) k) ∙ sym (mul_assoc 1 (2 ^ (l - k)) (2 ^ k));
    }
  where
    room : (l k e : ℕ) → l - k < l + suc e
    room l k e = omega arith

    back : (l k : ℕ) → k ≤ l → l - k + k ≡ l
    back l k h = omega arith

-- what is held is its own rounding
pub held_at_value : {f : Format} {a c : ℕ} (s : Bool) → 0 < c → HeldAt f a c → HasValue (round f s a c) s a c
held_at_value {f} {a} {c} s C h = round_exact f s a c h.q h.j C h.few h.under h.is

pub held-value : {f : Format} {N : ℕ} (s : Bool) → Held f N → HasValue (round f s N 1) s N 1
held-value s h = held_at_value s (zero-lt-suc 0) (held_whole h)
