-- Sizes grow with the pattern, so roots do, and the nearest root is one pattern. `root_bits` is it. Assumes nothing.
use mathlib.Core.Path.{◌≡◌, refl, sym}
use Prim.Native.Nat.{ℕ, zero, suc, ◌+◌, ◌-◌, ◌*◌, ◌/◌, ◌%◌, ◌^◌, ◌≤◌, ◌<◌}
use native.Mathlib.Nat.{mul-le-mul_left, mul-le-mul_right, mul-lt-mul_of_pos_right, le_trans, le_of_lt, le_of_eq, le_refl, le_antisymm}
use native.Mathlib.Decide.{dec_lt}
use native.Mathlib.Omega.{arith}
use lib.Pow.{pow-add, pow_pos}
use Rattle.roots.specs.Roots.{size_of, square_of, NearestRoot, root_bits}
use Rattle.roots.proofs.Whole.{sq_mono, twice_sq}
use Rattle.roots.proofs.Nearest.{size-at, size_small, Lift, lift_start, lift_some, lift_step, split_even, split_odd, split_nearest}

-- ---- sizes
pub size_step : (n : ℕ) → size_of n < size_of (n + 1)
size_step n = go (dec_lt (n + 1) (2 ^ 52)) (dec_lt n (2 ^ 52)) (dec_lt (n % 2 ^ 52 + 1) (2 ^ 52))
  where
    go : Dec (n + 1 < 2 ^ 52) → Dec (n < 2 ^ 52) → Dec (n % 2 ^ 52 + 1 < 2 ^ 52) → size_of n < size_of (n + 1)
    go (yes a) b c = rw (size_small n (omega arith), size_small (n + 1) a) (omega arith)
    go (no a) (yes b) c = rw (size_small n b, size-at (n + 1) (2 ^ 52) 0 (omega arith) (omega arith) (omega arith)) (omega arith)
    go (no a) (no b) (yes c) =
        let f = n / 2 ^ 52 - 1 in
        let d = n % 2 ^ 52 + 2 ^ 52 in
        let l : d < d + 1 = omega arith in
        rw (size-at n d f (omega arith) refl refl, size-at (n + 1) (d + 1) f (omega arith) (omega arith) (omega arith)) (mul-lt-mul_of_pos_right l (pow_pos f))
    go (no a) (no b) (no c) =
        let f = n / 2 ^ 52 - 1 in
        rw (
          size-at n (2 ^ 53 - 1) f (omega arith) (omega arith) refl,
          size-at (n + 1) (2 ^ 52) (f + 1) (omega arith) (omega arith) (omega arith),
          pow-add 2 f 1,
        ) (omega (arith, pow_pos f))

climb : (n d : ℕ) → size_of n ≤ size_of (n + d)
climb n zero = let e : n + 0 ≡ n = omega arith in rw e (le_refl (size_of n))
climb n (suc d) = let e : n + suc d ≡ n + d + 1 = omega arith in rw e (le_trans (climb n d) (le_of_lt (size_step (n + d))))

pub size_mono : (m n : ℕ) → m ≤ n → size_of m ≤ size_of n
size_mono m n h = let e : m + (n - m) ≡ n = omega arith in rw e at (climb m (n - m))

-- ---- roots grow with the number
crossed : (n m r s : ℕ) → NearestRoot n r → NearestRoot m s → size_of n ≤ size_of m → s < r → ⊥
unfolding square_of
crossed n m r s p q h l =
    let g : size_of s + size_of (s + 1) ≤ size_of (r - 1) + size_of r = omega (arith, size_mono s (r - 1) (omega arith), size_mono (s + 1) r (omega arith)) in
    let k : 4 * square_of n ≤ 4 * square_of m = mul-le-mul_left 4 (mul-le-mul_right (2 ^ 1074) h) in
    clash _ _ _ _ p.above k q.below (sq_mono g)
  where
    clash : (x y z w : ℕ) → x < y → y ≤ z → z < w → w ≤ x → ⊥
    clash x y z w a b c d = omega arith

pub nearest_mono : (n m r s : ℕ) → NearestRoot n r → NearestRoot m s → size_of n ≤ size_of m → r ≤ s
nearest_mono n m r s p q h = go (dec_lt s r)
  where
    go : Dec (s < r) → r ≤ s
    go (yes l) = absurd (crossed n m r s p q h l)
    go (no l) = omega arith

pub nearest_unique : (n r s : ℕ) → NearestRoot n r → NearestRoot n s → r ≡ s
nearest_unique n r s p q = le_antisymm (nearest_mono n n r s p q (le_refl _)) (nearest_mono n n s r q p (le_refl _))

-- ---- a root against any float: told by its square
double : (a b c : ℕ) → a ≤ c → b ≤ c → (a + b) * (a + b) ≤ 4 * (c * c)
double a b c h k = let e : a + b ≤ c * 2 = omega arith in le_trans (sq_mono e) (le_of_eq (twice_sq c))

double_up : (a b c : ℕ) → c ≤ a → c ≤ b → 4 * (c * c) ≤ (a + b) * (a + b)
double_up a b c h k = let e : c * 2 ≤ a + b = omega arith in le_trans (le_of_eq (sym (twice_sq c))) (sq_mono e)

round_trip : (x y z : ℕ) → x < y → y ≤ z → z ≤ x → ⊥
round_trip x y z a b c = omega arith

module _ (n r q : ℕ) (p : NearestRoot n r) where
  pub root-most : square_of n ≤ size_of q * size_of q → r ≤ q
  root-most h = go (dec_lt q r)
    where
      go : Dec (q < r) → r ≤ q
      go (yes l) = absurd (round_trip _ _ _ p.above (mul-le-mul_left 4 h)
          (double_up (size_of (r - 1)) (size_of r) (size_of q) (size_mono q (r - 1) (omega arith)) (size_mono q r (omega arith))))
      go (no l) = omega arith

  pub root-least : size_of q * size_of q ≤ square_of n → q ≤ r
  root-least h = go (dec_lt r q)
    where
      go : Dec (r < q) → q ≤ r
      go (yes l) = absurd (round_trip _ _ _ p.below (double (size_of r) (size_of (r + 1)) (size_of q) (size_mono r q (omega arith))
          (size_mono (r + 1) q (omega arith))) (mul-le-mul_left 4 h))
      go (no l) = omega arith

-- ---- the root of every finite float above zero
lift_nearest : (k n a p : ℕ) → p ≡ k + 485 → Lift n a p → NearestRoot n (root_bits n)
lift_nearest zero n a p e l = go (dec_lt a (2 ^ 52))
  where
    go : Dec (a < 2 ^ 52) → NearestRoot n (root_bits n)
    go (yes h) = absurd (omega (arith, lift_some n a p l h))
    go (no h) = split_nearest n a p (omega arith) l.split
lift_nearest (suc k) n a p e l = go (dec_lt a (2 ^ 52)) (λ m. lift_nearest k n (a * 4) (p - 1) (omega arith) (lift_step n a p l m))
  where
    go : Dec (a < 2 ^ 52) → (a < 2 ^ 52 → NearestRoot n (root_bits n)) → NearestRoot n (root_bits n)
    go (yes h) ih = ih h
    go (no h) ih = split_nearest n a p (omega arith) l.split

pub root-nearest : (n : ℕ) → 0 < n → n < 0x7FF0_0000_0000_0000 → NearestRoot n (root_bits n)
root-nearest n p h = go (dec_lt n (2 ^ 52)) (dec_lt ((n / 2 ^ 52 - 1) % 2) 1)
  where
    go : Dec (n < 2 ^ 52) → Dec ((n / 2 ^ 52 - 1) % 2 < 1) → NearestRoot n (root_bits n)
    go (yes l) e = lift_nearest 26 n n 511 refl (lift_start n p l)
    go (no l) (yes e) = split_nearest n _ _ (omega arith) (split_even n (omega arith) h (omega arith))
    go (no l) (no e) = split_nearest n _ _ (omega arith) (split_odd n (omega arith) h (λ f. omega arith))

pub root_is : (n r : ℕ) → 0 < n → n < 0x7FF0_0000_0000_0000 → NearestRoot n r → r ≡ root_bits n
root_is n r p h q = nearest_unique n r (root_bits n) q (root-nearest n p h)
