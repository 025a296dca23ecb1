-- What other crates cite of the square root. It is the float nearest to the root, and no other float is; zeros and the
-- infinity are their own roots, and below zero there is none; it grows with x; and a bound on x gives one on the root. Assumes nothing.
use mathlib.Core.Path.{◌≡◌, refl, sym, ap, ◌∙◌}
use mathlib.Core.Bool.{Bool, true, false}
use mathlib.Core.Logic.{inl, inr}
use Prim.Native.Nat.{ℕ, ◌+◌, ◌-◌, ◌*◌, ◌^◌, ◌≤◌, ◌<◌}
use native.Mathlib.Nat.{le_trans, le_of_eq, le_of_lt, mul-le-mul, mul_comm, mul_assoc, mul-le-mul_right, mul-pos, le_of_mul-le-mul_right}
use native.Mathlib.Omega.{arith}
use lib.Dec.{T, ltb, lit<, lit≤}
use lib.Pow.{pow-add, pow_pos}
use lib.Ieee.{Float, nan, inf, binary64, lt, le, eq, neg, fits, of_bits, to_bits}
use lib.Ieee.Bits.{of_bits-to_bits, of_bits-fits}
use lib.Ieee.Fits.{nan-fits}
use lib.Ieee.Exact.{HasValue}
use lib.Ieee.Scale.{finite}
use borrow.Author.Tests.{leb-true, le-leb}
use Rattle.numbers.specs.Rounded.{bits, nought, pick}
use Rattle.sizes.specs.Sizes.{Within, AtLeast, Plus}
use Rattle.sizes.proofs.Sizes.{value-most, most-finite}
use Rattle.sizes.proofs.Least.{value-least, above-least}
use Rattle.sizes.proofs.Order.{le_values, lt_then_le}
use Rattle.sizes.proofs.Signs.{above_plus}
use Rattle.roots.specs.Roots.{infinite, size_of, square_of, NearestRoot, RoundedRoot, root_bits, root_above, sqrt_of}
use Rattle.roots.proofs.Whole.{sq_mul}
use Rattle.roots.proofs.Nearest.{size_small}
use Rattle.roots.proofs.Unique.{size_mono, root-most, root-least, root-nearest, root_is, nearest_mono}
use Rattle.roots.proofs.Floats.{above-bits, above_kinds, below_tests, plus_nought, nan_not_above, sqrt_cases, sqrt_above, sqrt_none, sqrt_nought}
use Rattle.roots.proofs.Values.{
  size-value,
  bits_back,
  bits-under,
  bits-value,
  some_size,
  power_size,
  part_size,
  square-is,
  value-finite,
  value-above,
  most-value,
  least-value,
}

-- ---- zeros, the infinity, and what has no root
pub sqrt_of_nought : sqrt_of nought ≡ nought
unfolding sqrt_of of_bits
sqrt_of_nought = refl

pub sqrt_of_minus_nought : sqrt_of (neg nought) ≡ neg nought
unfolding sqrt_of of_bits neg
sqrt_of_minus_nought = refl

pub sqrt_of_infinity : sqrt_of (inf false) ≡ inf false
unfolding sqrt_of of_bits
sqrt_of_infinity = refl

pub sqrt_of_nan : sqrt_of nan ≡ nan
unfolding sqrt_of of_bits
sqrt_of_nan = refl

pub sqrt_below : (x : Float) → lt x nought ≡ true → sqrt_of x ≡ nan
sqrt_below x h = let t = below_tests x h in sqrt_none x t.0 t.1

-- ---- the root of a finite float above zero
-- `size_of` is the size of the float
pub size_is : (n : ℕ) → n < infinite → HasValue (bits n) false (size_of n) (2 ^ 1074)
size_is n h = size-value n h

-- the bits of x, and of its root
abbrev own : Float → ℕ
own x = to_bits binary64 x

abbrev root : Float → ℕ
root x = root_bits (own x)

module _ (x : Float) (f : T (fits binary64 x)) (h : lt nought x ≡ true) (l : T (finite x)) where
  nearest : NearestRoot (own x) (root x)
  nearest = root-nearest (own x) (above-bits x f h) (bits-under x f h l)

  -- the largest float is below 2 ^ 1024, so its root is at most 2 ^ 512
  root-under : root x < infinite
  root-under =
      let a : size_of (own x) ≤ 2 ^ 1024 * 2 ^ 1074 = le_trans (size_mono (own x) infinite (le_of_lt (bits-under x f h l))) (le_of_eq (power_size 1024)) in
      let b : square_of (own x) ≤ size_of ((512 + 1023) * 2 ^ 52) * size_of ((512 + 1023) * 2 ^ 52) =
      rw (square-is (own x), power_size 512) (mul-le-mul_right (2 ^ 1074) a) in
      omega (arith, root-most (own x) (root x) ((512 + 1023) * 2 ^ 52) nearest b)

  root-some : 0 < root x
  root-some =
      let a : 1 * 1 ≤ size_of (own x) * 2 ^ 1074 = mul-le-mul (some_size (own x) (above-bits x f h)) (lit≤ {m = 1} {n = 2 ^ 1074} tt) in
      root-least (own x) (root x) 1 nearest (rw (square-is (own x), size_small 1 (lit< tt)) a)

  root-bits : sqrt_of x ≡ bits (root x)
  root-bits = sqrt_above x h (bits-under x f h l)

  root-value : HasValue (sqrt_of x) false (size_of (root x)) (2 ^ 1074)
  root-value = rw root-bits (size-value (root x) root-under)

  -- the root is correctly rounded
  pub sqrt_rounded : RoundedRoot x (sqrt_of x)
  sqrt_rounded = record {
    n = own x;
    s = root x;
    above = above-bits x f h;
    finite = bits-under x f h l;
    number = sym (of_bits-to_bits binary64 x f);
    root = root-bits;
    nearest = nearest;
  }

  pub sqrt_finite : T (finite (sqrt_of x))
  sqrt_finite = value-finite (sqrt_of x) false (size_of (root x)) (2 ^ 1074) root-value

  sqrt_above_finite : lt nought (sqrt_of x) ≡ true
  sqrt_above_finite = value-above (sqrt_of x) (size_of (root x)) (2 ^ 1074) (some_size (root x) root-some) (pow_pos 1074) root-value

-- and no other float is
pub rounded_unique : (x r : Float) → RoundedRoot x r → r ≡ sqrt_of x
rounded_unique x r c =
    let e : to_bits binary64 x ≡ c.n = ap (to_bits binary64) c.number ∙ bits_back c.n c.finite in
    let u : lt nought x ≡ true = rw c.number (value-above (bits c.n) (size_of c.n) (2 ^ 1074) (some_size c.n c.above) (pow_pos 1074)
    (size-value c.n c.finite)) in
    c.root ∙ ap bits (root_is c.n c.s c.above c.finite c.nearest) ∙ rw (← e) (sym (sqrt_above x u (rw e c.finite)))

-- ---- every x
pick-fits : (b : Bool) (x y : Float) → T (fits binary64 x) → T (fits binary64 y) → T (fits binary64 (pick b x y))
pick-fits true x y h k = h
pick-fits false x y h k = k

pub sqrt_fits : (x : Float) → T (fits binary64 x) → T (fits binary64 (sqrt_of x))
unfolding root_above
sqrt_fits x f = rw (sqrt_cases x)
    (pick-fits (lt nought x) (root_above x (own x)) (pick (eq x nought) x nan)
    (pick-fits (ltb (own x) infinite) (bits (root x)) x (of_bits-fits binary64 (root x)) f)
    (pick-fits (eq x nought) x nan f (nan-fits binary64)))

sqrt_above_nought : (x : Float) → T (fits binary64 x) → lt nought x ≡ true → lt nought (sqrt_of x) ≡ true
sqrt_above_nought x f h = elim (above_kinds x h) [ inl l ↦ sqrt_above_finite x f h l | inr e ↦ rw (e, sqrt_of_infinity) (rw e at h) ]

pub sqrt_plus : (x : Float) → T (fits binary64 x) → lt nought x ≡ true → Plus (sqrt_of x)
sqrt_plus x f h = above_plus (sqrt_of x) (sqrt_above_nought x f h)

-- the root is above zero exactly where x is
pub sqrt_above_as : (x : Float) → T (fits binary64 x) → lt nought (sqrt_of x) ≡ lt nought x
sqrt_above_as x f = go (lt nought x) refl (eq x nought) refl
  where
    go : (b : Bool) → lt nought x ≡ b → (d : Bool) → eq x nought ≡ d → lt nought (sqrt_of x) ≡ b
    go true h d k = sqrt_above_nought x f h
    go false h true k = rw (sqrt_nought x h k) h
    go false h false k = rw (sqrt_none x h k) nan_not_above

-- ---- bounds
-- of size at most 4 ^ k: the root is at most 2 ^ k
pub sqrt_within : {x : Float} (k : ℕ) → T (fits binary64 x) → lt nought x ≡ true → Within (k + k) x → Within k (sqrt_of x)
sqrt_within {x} k f h w =
    let l = most-finite w in
    let q = (k + 1023) * 2 ^ 52 in
    let a : size_of (own x) ≤ 2 ^ (k + k) * 2 ^ 1074 = most-value (2 ^ (k + k)) x (size_of (own x)) (2 ^ 1074) (bits-value x f h l) w in
    let e : 2 ^ (k + k) * 2 ^ 1074 * 2 ^ 1074 ≡ size_of q * size_of q =
    rw (power_size k, sq_mul (2 ^ k) (2 ^ 1074), pow-add 2 k k) (mul_assoc (2 ^ k * 2 ^ k) (2 ^ 1074) (2 ^ 1074)) in
    let b : square_of (own x) ≤ size_of q * size_of q = rw (square-is (own x)) (le_trans (mul-le-mul_right (2 ^ 1074) a) (le_of_eq e)) in
    let r : size_of (root x) ≤ 2 ^ k * 2 ^ 1074 = le_trans (size_mono (root x) q (root-most (own x) (root x) q (nearest x f h l) b)) (le_of_eq (power_size k)) in
    value-most false (size_of (root x)) (2 ^ 1074) (pow_pos 1074) (root-value x f h l) r

-- the same where x may be +0
pub sqrt_within_plus : {x : Float} (k : ℕ) → T (fits binary64 x) → Plus x → Within (k + k) x → Within k (sqrt_of x)
sqrt_within_plus {x} k f p w = go (lt nought x) refl
  where
    go : (b : Bool) → lt nought x ≡ b → Within k (sqrt_of x)
    go true h = sqrt_within k f h w
    go false h = let n = plus_nought x p.sign h in rw (sqrt_nought x h n.0) (n.1 (2 ^ k))

-- of size at least 4 ^ -k: the root is at least 2 ^ -k
least-finite : (x : Float) (k : ℕ) → k ≤ 1022 → T (fits binary64 x) → lt nought x ≡ true → T (finite x) → AtLeast 1 (2 ^ (k + k)) x
    → AtLeast 1 (2 ^ k) (sqrt_of x)
least-finite x k g f h l w =
    let q = (1023 - k) * 2 ^ 52 in
    let u = 2 ^ k in
    let d : size_of q * u ≡ 2 ^ 1074 = part_size k g in
    let a : 1 * 2 ^ 1074 ≤ 2 ^ (k + k) * size_of (own x) = least-value 1 (2 ^ (k + k)) x (size_of (own x)) (2 ^ 1074) (bits-value x f h l) w in
    let e : size_of q * size_of q * (u * u) ≡ 1 * 2 ^ 1074 * 2 ^ 1074 = sym (sq_mul (size_of q) u) ∙ ap (λ (z : ℕ). z * z) d in
    let i : 2 ^ (k + k) * size_of (own x) * 2 ^ 1074 ≡ square_of (own x) * (u * u) =
    rw (square-is (own x), pow-add 2 k k) (mul_assoc (u * u) (size_of (own x)) (2 ^ 1074) ∙ mul_comm (u * u) (size_of (own x) * 2 ^ 1074)) in
    let b : size_of q * size_of q ≤ square_of (own x) = le_of_mul-le-mul_right
    (le_trans (le_of_eq e) (le_trans (mul-le-mul_right (2 ^ 1074) a) (le_of_eq i))) (mul-pos (pow_pos k) (pow_pos k)) in
    let r : size_of q ≤ size_of (root x) = size_mono q (root x) (root-least (own x) (root x) q (nearest x f h l) b) in
    let t : 1 * 2 ^ 1074 ≤ u * size_of (root x) = le_trans (le_of_eq (sym d)) (le_trans (mul-le-mul_right u r) (le_of_eq (mul_comm (size_of (root x)) u))) in
    value-least false (size_of (root x)) (2 ^ 1074) (pow_pos 1074) (root-value x f h l) t

pub sqrt_least : {x : Float} (k : ℕ) → k ≤ 1022 → T (fits binary64 x) → lt nought x ≡ true → AtLeast 1 (2 ^ (k + k)) x → AtLeast 1 (2 ^ k) (sqrt_of x)
sqrt_least {x} k g f h w = elim (above_kinds x h) [ inl l ↦ least-finite x k g f h l w | inr e ↦ rw (e, sqrt_of_infinity) (record { size = tt }) ]

-- the smallest float is 2 ^ -1074, so every root above zero is at least 2 ^ -537
pub sqrt_least_any : (x : Float) → T (fits binary64 x) → lt nought x ≡ true → AtLeast 1 (2 ^ 537) (sqrt_of x)
sqrt_least_any x f h = sqrt_least 537 (lit≤ tt) f h (above-least binary64 x f h)

-- ---- the root grows with x
pub sqrt_mono : (x y : Float) → T (fits binary64 x) → T (fits binary64 y) → lt nought x ≡ true → T (finite x) → T (finite y) → le x y ≡ true
    → le (sqrt_of x) (sqrt_of y) ≡ true
sqrt_mono x y fx fy hx lx ly h =
    let u = 2 ^ 1074 in
    let hy = lt_then_le nought x y hx h in
    let e = le_values x y (size_of (own x)) u (size_of (own y)) u (pow_pos 1074) (pow_pos 1074) (bits-value x fx hx lx) (bits-value y fy hy ly) in
    let a : size_of (own x) ≤ size_of (own y) = le_of_mul-le-mul_right (leb-true (size_of (own x) * u) (size_of (own y) * u) (sym e ∙ h)) (pow_pos 1074) in
    let b : root x ≤ root y = nearest_mono (own x) (own y) (root x) (root y) (nearest x fx hx lx) (nearest y fy hy ly) a in
    le_values (sqrt_of x) (sqrt_of y) (size_of (root x)) u (size_of (root y)) u (pow_pos 1074) (pow_pos 1074) (root-value x fx hx lx) (root-value y fy hy ly)
    ∙ le-leb (size_of (root x) * u) (size_of (root y) * u) (mul-le-mul_right u (size_mono (root x) (root y) b))
