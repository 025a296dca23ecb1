-- The whole part of a root: `whole_root` is it, it may be cut with its number, and `root_by_digits` finds it. Assumes nothing.
use mathlib.Core.Path.{◌≡◌, refl, ◌∙◌}
use Prim.Native.Nat.{ℕ, zero, suc, ◌+◌, ◌-◌, ◌*◌, ◌/◌, ◌%◌, ◌^◌, ◌≤◌, ◌<◌}
use native.Mathlib.Nat.{
  add-mul,
  mul-add,
  mul_assoc,
  mul_comm,
  mul_left_comm,
  mul-one,
  one-mul,
  le_trans,
  lt_of_lt_of_le,
  mul-pos,
  mul-le-mul,
  div-mul-le_self,
  div-lt_iff_lt-mul,
  le_of_mul-le-mul_right,
  lt_of_mul-lt-mul_right,
  pow-suc,
}
use native.Mathlib.Omega.{arith}
use mathlib.Core.Bool.{Bool, true, false}
use lib.Dec.{leb}
use lib.Pow.{pow_mono, pow-add, pow_pos}
use lib.Ieee.{size}
use lib.Ieee.Digits.{size-lt}
use borrow.Author.Tests.{leb-true, leb-false}
use Rattle.numbers.specs.Rounded.{pick}
use Rattle.roots.specs.Roots.{root_digits, whole_root}

-- ---- squares
pub sq_mono : {a b : ℕ} → a ≤ b → a * a ≤ b * b
sq_mono h = mul-le-mul h h

pub sq_mul : (x u : ℕ) → x * u * (x * u) ≡ x * x * (u * u)
sq_mul x u = simp (mul_assoc, mul_left_comm)

pub twice_sq : (r : ℕ) → r * 2 * (r * 2) ≡ 4 * (r * r)
twice_sq r = sq_mul r 2 ∙ mul_comm (r * r) 4

pub succ_sq : (r : ℕ) → (r + 1) * (r + 1) ≡ r * r + 2 * r + 1
succ_sq r = simp (add-mul, mul-add, mul-one, one-mul) (omega arith)

pub twice_one_sq : (r : ℕ) → (r * 2 + 1) * (r * 2 + 1) ≡ 4 * (r * r) + 4 * r + 1
twice_one_sq r = succ_sq (r * 2) ∙ omega (arith, twice_sq r)

-- ---- the whole root of n is the r with r * r ≤ n < (r + 1) * (r + 1)
pub record Root (n r : ℕ) : Type 0 where
  pub most : r * r ≤ n
  pub next : n < (r + 1) * (r + 1)

next_root_lem : (n s : ℕ) (b : Bool) → leb ((s + 1) * (s + 1)) n ≡ b → s * s ≤ n → n < (s + 2) * (s + 2) → Root n (pick b (s + 1) s)
next_root_lem n s true e h k = record { most = leb-true _ _ e; next = let q : s + 1 + 1 ≡ s + 2 = omega arith in rw q k }
next_root_lem n s false e h k = record { most = h; next = leb-false _ _ e }

root_digits_lem : (k n : ℕ) → n < 4 ^ k → Root n (root_digits k n)
unfolding root_digits
root_digits_lem zero n h = let e : n ≡ 0 = omega arith in rw e (record { most = omega arith; next = omega arith })
root_digits_lem (suc k) n h =
    let r = root_digits k (n / 4) in
    let q : n / 4 < 4 ^ k = omega (arith, pow-suc 4 k) in
    let p = root_digits_lem k (n / 4) q in
    let e : 2 * r ≡ r * 2 = omega arith in
    let f : 2 * r + 2 ≡ (r + 1) * 2 = omega arith in
    let lo : 2 * r * (2 * r) ≤ n = rw e (omega (arith, twice_sq r, p.most)) in
    let hi : n < (2 * r + 2) * (2 * r + 2) = rw f (omega (arith, twice_sq (r + 1), p.next)) in
    next_root_lem n (2 * r) (leb ((2 * r + 1) * (2 * r + 1)) n) refl lo hi

four_power : (k : ℕ) → 4 ^ k ≡ 2 ^ (k + k)
four_power zero = refl
four_power (suc k) = let e : suc k + suc k ≡ k + k + 2 = omega arith in pow-suc 4 k ∙ rw (four_power k, e, pow-add 2 (k + k) 2)

pub whole-root : (n : ℕ) → Root n (whole_root n)
unfolding whole_root
whole-root n =
    let k = size n / 2 + 1 in
    let l : size n ≤ k + k = omega arith in
    root_digits_lem k n (rw (four_power k) (lt_of_lt_of_le (size-lt n) (pow_mono l)))

-- a whole root less its last p binary digits is the whole root of the number less 2 * p of them
pub root_cut : (m p s : ℕ) → Root (m * (2 ^ p * 2 ^ p)) s → Root m (s / 2 ^ p)
root_cut m p s h =
    let u = 2 ^ p in
    let c = s / u in
    let u+ : 0 < u = pow_pos p in
    let lo : c * u ≤ s = div-mul-le_self s u in
    let hi : s < (c + 1) * u = (div-lt_iff_lt-mul u+).0 (omega arith) in
    let above : s + 1 ≤ (c + 1) * u = omega arith in
    record {
      most = le_of_mul-le-mul_right (rw (← sq_mul c u) (le_trans (sq_mono lo) h.most)) (mul-pos u+ u+);
      next = lt_of_mul-lt-mul_right (u * u) (rw (← sq_mul (c + 1) u) (lt_of_lt_of_le h.next (sq_mono above)));
    }

-- ---- `root_by_digits`: after i turns, root is the whole root of a's leading digits, rest what that leaves of them, and left the digits to come
pub record Digits (a rest root left i : ℕ) : Type 0 where
  pub upto : i ≤ 54
  pub sum : (root * root + rest) * 2 ^ 54 + left ≡ a * 4 ^ i
  pub low : rest ≤ 2 * root
  pub small : root < 2 ^ i
  pub cap : root < 2 ^ 54
  pub window : left < 2 ^ 54

pow_next : (a i : ℕ) → a * 4 ^ (i + 1) ≡ 4 * (a * 4 ^ i)
pow_next a i = rw (pow-add 4 i 1) (rw (← mul_assoc) (omega arith))

two_next : (i : ℕ) → 2 ^ (i + 1) ≡ 2 * 2 ^ i
two_next i = rw (pow-add 2 i 1) (omega arith)

cap_of : (r i : ℕ) → r < 2 ^ i → i ≤ 54 → r < 2 ^ 54
cap_of r i h k = let p : 2 ^ i ≤ 2 ^ 54 = pow_mono k in omega arith

module _ (a rest root left i : ℕ) (d : Digits a rest root left i) (l : i < 54) where
  pub digit_one : root * 4 < rest * 4 + left / 2 ^ 52 → Digits a (rest * 4 + left / 2 ^ 52 - (root * 4 + 1)) (root * 2 + 1) (left % 2 ^ 52 * 4) (i + 1)
  digit_one h =
      let s : root * 2 + 1 < 2 ^ (i + 1) = omega (arith, two_next i) in
      record {
        upto = omega arith;
        sum = omega (arith, twice_one_sq root, pow_next a i);
        low = omega arith;
        small = s;
        cap = cap_of (root * 2 + 1) (i + 1) s (omega arith);
        window = omega arith;
      }

  pub digit_zero : rest * 4 + left / 2 ^ 52 ≤ root * 4 → Digits a (rest * 4 + left / 2 ^ 52) (root * 2) (left % 2 ^ 52 * 4) (i + 1)
  digit_zero h =
      let s : root * 2 < 2 ^ (i + 1) = omega (arith, two_next i) in
      record {
        upto = omega arith;
        sum = omega (arith, twice_sq root, pow_next a i);
        low = omega arith;
        small = s;
        cap = cap_of (root * 2) (i + 1) s (omega arith);
        window = omega arith;
      }

pub digits_end : (a rest root left : ℕ) → Digits a rest root left 54 → (root * root ≤ a * 2 ^ 54) × (a * 2 ^ 54 < (root + 1) * (root + 1)) × (root < 2 ^ 54)
digits_end a rest root left d =
    let e : a * 4 ^ 54 ≡ a * 2 ^ 54 * 2 ^ 54 = omega arith in
    let z : root * root + rest ≡ a * 2 ^ 54 = omega arith in
    (omega arith, omega (arith, succ_sq root), d.cap)
