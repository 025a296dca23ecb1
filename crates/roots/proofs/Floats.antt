-- The root by what the tests of a float say, and what they say of its bits. Assumes nothing.
use mathlib.Core.Path.{◌≡◌, refl, ap, ◌∙◌}
use mathlib.Core.Bool.{true, false}
use mathlib.Core.Logic.{◌⊎◌, inl, inr}
use Prim.Native.Nat.{ℕ, zero, suc, ◌+◌, ◌*◌, ◌≤◌, ◌<◌, zero-le}
use native.Mathlib.Omega.{arith}
use lib.IntN.{pos}
use lib.Dec.{T}
use lib.Ieee.{Float, nan, inf, fin, binary64, up, down, div, lt, eq, fits, of_bits, to_bits}
use lib.Ieee.Bits.{of_bits-to_bits}
use lib.Ieee.Scale.{finite}
use borrow.Author.Tests.{lt-ltb, le-ltb, ltb-true, ltb-false, eq-eqb, ne_eqb}
use Rattle.numbers.specs.Rounded.{bits, nought, pick}
use Rattle.numbers.proofs.Tests.{true_not_false}
use Rattle.sizes.specs.Sizes.{AtMost, is_plus}
use Rattle.sizes.proofs.Order.{lt_self}
use Rattle.sizes.proofs.Signs.{nought-is}
use Rattle.roots.specs.Roots.{infinite, root_bits, root_above, sqrt_of}

pub nought_by_nought : div binary64 (of_bits binary64 0) (of_bits binary64 0) ≡ nan
unfolding div of_bits
nought_by_nought = refl

-- what is above zero hasn't the bits 0
pub above-bits : (x : Float) → T (fits binary64 x) → lt nought x ≡ true → 0 < to_bits binary64 x
above-bits x f h = go (to_bits binary64 x) (of_bits-to_bits binary64 x f)
  where
    go : (n : ℕ) → of_bits binary64 n ≡ x → 0 < n
    go zero e = true_not_false _ (ap (lt nought) e ∙ h) (lt_self nought)
    go (suc n) e = omega arith

-- ---- the definition's four cases
pub sqrt_cases : (x : Float) → sqrt_of x ≡ pick (lt nought x) (root_above x (to_bits binary64 x)) (pick (eq x nought) x nan)
unfolding sqrt_of
sqrt_cases x = refl

pub sqrt_above : (x : Float) → lt nought x ≡ true → to_bits binary64 x < infinite → sqrt_of x ≡ bits (root_bits (to_bits binary64 x))
unfolding root_above
sqrt_above x h l = rw (sqrt_cases x, h, lt-ltb (to_bits binary64 x) infinite l)

pub sqrt_infinite : (x : Float) → lt nought x ≡ true → infinite ≤ to_bits binary64 x → sqrt_of x ≡ x
unfolding root_above
sqrt_infinite x h l = rw (sqrt_cases x, h, le-ltb (to_bits binary64 x) infinite l)

pub sqrt_nought : (x : Float) → lt nought x ≡ false → eq x nought ≡ true → sqrt_of x ≡ x
sqrt_nought x h e = rw (sqrt_cases x, h, e)

pub sqrt_none : (x : Float) → lt nought x ≡ false → eq x nought ≡ false → sqrt_of x ≡ nan
sqrt_none x h e = rw (sqrt_cases x, h, e)

-- ---- which floats the tests let through
-- above zero: finite, or the infinity
pub above_kinds : (x : Float) → lt nought x ≡ true → T (finite x) ⊎ (x ≡ inf false)
unfolding lt of_bits
above_kinds nan h = true_not_false false h refl
above_kinds (inf true) h = true_not_false false h refl
above_kinds (inf false) h = inr refl
above_kinds (fin s m e) h = inl tt

-- below zero: neither above it nor equal to it
below_of : (x : Float) → lt x (fin false 0 (pos 0)) ≡ true → (lt (fin false 0 (pos 0)) x ≡ false) × (eq x (fin false 0 (pos 0)) ≡ false)
unfolding lt eq
below_of nan h = true_not_false false h refl
below_of (inf true) h = (refl, refl)
below_of (inf false) h = true_not_false false h refl
below_of (fin true m e) h = (refl, rw (ne_eqb (m * up e * 1) (0 * 1 * down e) (λ z. omega (arith, ltb-true 0 (m * up e * 1 + 0 * 1 * down e) h))))
below_of (fin false m e) h = true_not_false _ h (le-ltb (m * up e * 1) (0 * 1 * down e) (omega arith))

pub below_tests : (x : Float) → lt x nought ≡ true → (lt nought x ≡ false) × (eq x nought ≡ false)
below_tests x h = let t = below_of x (rw nought-is at h) in (rw nought-is t.0, rw nought-is t.1)

-- a plus sign, and not above zero: +0
plus_of : (x : Float) → T (is_plus x) → lt (fin false 0 (pos 0)) x ≡ false → (eq x (fin false 0 (pos 0)) ≡ true) × ((N : ℕ) → AtMost N x)
unfolding is_plus lt eq
plus_of nan p h = absurd p
plus_of (inf true) p h = absurd p
plus_of (inf false) p h = true_not_false true refl h
plus_of (fin true m e) p h = absurd p
plus_of (fin false m e) p h =
    let z : m * up e ≡ 0 = omega (arith, ltb-false (0 * 1 * down e) (m * up e * 1) h) in
    (rw (eq-eqb (m * up e * 1) (0 * 1 * down e) (omega arith)), λ N. record { size = rw z zero-le })

pub plus_nought : (x : Float) → T (is_plus x) → lt nought x ≡ false → (eq x nought ≡ true) × ((N : ℕ) → AtMost N x)
plus_nought x p h = let t = plus_of x p (rw nought-is at h) in (rw nought-is t.0, t.1)

pub nan_not_above : lt nought nan ≡ false
unfolding lt of_bits
nan_not_above = refl
