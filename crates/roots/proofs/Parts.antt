-- The square of a whole number below 2 ^ 53 in two parts, and what the test `is_nearest` makes of them. Assumes nothing.
use mathlib.Core.Path.{◌≡◌, refl, sym, ap, ◌∙◌}
use Prim.Native.Nat.{ℕ, ◌+◌, ◌-◌, ◌*◌, ◌/◌, ◌%◌, ◌^◌, ◌≤◌, ◌<◌}
use native.Mathlib.Nat.{add-mul, mul-add, mul_assoc, mul_comm, mul_left_comm, mul-le-mul}
use native.Mathlib.Omega.{arith}
use mathlib.Core.Bool.{Bool, true, false}
use lib.Dec.{leb, ltb}
use borrow.Author.Tests.{lt-ltb, le-ltb, lt-leb, leb-true, leb-false}
use Rattle.roots.specs.Roots.{nearest_whole}

-- the upper and the lower digits, and their product
abbrev pub upper : ℕ → ℕ
upper y = y / 0x400_0000

abbrev pub lower : ℕ → ℕ
lower y = y % 0x400_0000

abbrev pub cross : ℕ → ℕ
cross y = upper y * lower y

-- the square is high * 2 ^ 52 + low
abbrev pub high : ℕ → ℕ
high y = upper y * upper y + cross y / 0x200_0000

abbrev pub low : ℕ → ℕ
low y = cross y % 0x200_0000 * 0x800_0000 + lower y * lower y

pub record Parts (y : ℕ) : Type 0 where
  pub crossed : cross y < 2 ^ 53
  pub top : upper y * upper y < 2 ^ 54
  pub bottom : lower y * lower y < 2 ^ 52
  pub square : y * y ≡ high y * 2 ^ 52 + low y

product : (a b m n : ℕ) → a ≤ m → b ≤ n → a * b ≤ m * n
product a b m n h k = mul-le-mul h k

sum-square : (p q : ℕ) → (p * 2 ^ 26 + q) * (p * 2 ^ 26 + q) ≡ p * p * 2 ^ 52 + p * q * 2 ^ 27 + q * q
sum-square p q =
    let a : p * 2 ^ 26 * (p * 2 ^ 26) ≡ p * p * 2 ^ 52 = simp (mul_assoc, mul_left_comm) (omega arith) in
    let b : p * 2 ^ 26 * q ≡ p * q * 2 ^ 26 = simp (mul_assoc, mul_comm) in
    let d : q * (p * 2 ^ 26) ≡ p * q * 2 ^ 26 = simp (mul_assoc, mul_left_comm) in
    simp (add-mul, mul-add) (omega (arith, a, b, d))

pub parts : (y : ℕ) → y < 2 ^ 53 → Parts y
parts y h =
    let e : upper y * 2 ^ 26 + lower y ≡ y = omega arith in
    record {
      crossed = omega (arith, product (upper y) (lower y) (2 ^ 27) (2 ^ 26 - 1) (omega arith) (omega arith));
      top = omega (arith, product (upper y) (upper y) (2 ^ 27 - 1) (2 ^ 27 - 1) (omega arith) (omega arith));
      bottom = omega (arith, product (lower y) (lower y) (2 ^ 26 - 1) (2 ^ 26 - 1) (omega arith) (omega arith));
      square = ap (λ (z : ℕ). z * z) (sym e) ∙ sum-square (upper y) (lower y) ∙ omega arith;
    }

-- ---- the test's answers, by how far a stands above high: more is `apart` below, less one
same_leb : (a b c d : ℕ) → (a ≤ b → c ≤ d) → (c ≤ d → a ≤ b) → leb a b ≡ leb c d
same_leb a b c d f g = go (leb a b) refl (leb c d) refl
  where
    go : (p : Bool) → leb a b ≡ p → (q : Bool) → leb c d ≡ q → p ≡ q
    go true e true k = refl
    go true e false k = let l = leb-false c d k in let m = f (leb-true a b e) in absurd (omega arith)
    go false e true k = let l = leb-false a b e in let m = g (leb-true c d k) in absurd (omega arith)
    go false e false k = refl

module _ (a y : ℕ) (h : y < 2 ^ 53) where
  pub far_above : a + 1 < high y → nearest_whole a y ≡ false
  unfolding nearest_whole
  far_above l = let p = parts y h in rw (le-ltb (y * y) (a * 2 ^ 52 + y) (omega arith))

  pub far_below : 4 < a + 1 - high y → nearest_whole a y ≡ false
  unfolding nearest_whole
  far_below l = let p = parts y h in rw (lt-ltb (y * y) (a * 2 ^ 52 + y) (omega arith), lt-leb (a * 2 ^ 52) (y * y + y) (omega arith))

  pub above : high y ≤ a + 1 → (a + 1 - high y) * 2 ^ 52 + y ≤ low y + 2 ^ 52
      → ltb (low y + 2 ^ 52) ((a + 1 - high y) * 2 ^ 52 + y) ≡ nearest_whole a y
  unfolding nearest_whole
  above k l = let p = parts y h in rw (le-ltb (low y + 2 ^ 52) _ l, le-ltb (y * y) (a * 2 ^ 52 + y) (omega arith))

  pub below : high y ≤ a + 1 → low y + 2 ^ 52 < (a + 1 - high y) * 2 ^ 52 + y
      → leb ((a + 1 - high y) * 2 ^ 52) (low y + 2 ^ 52 + y) ≡ nearest_whole a y
  unfolding nearest_whole
  below k l =
      let p = parts y h in
      rw (lt-ltb (y * y) (a * 2 ^ 52 + y) (omega arith))
      (same_leb ((a + 1 - high y) * 2 ^ 52) (low y + 2 ^ 52 + y) (a * 2 ^ 52) (y * y + y) (λ m. omega arith) (λ m. omega arith))
