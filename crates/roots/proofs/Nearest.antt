-- From whole numbers to floats: a whole number y nearest to the root of a * 2 ^ 52 gives the pattern y + p * 2 ^ 52 nearest to the root of every
-- pattern n whose square is a * 2 ^ 54 * (2 ^ p * 2 ^ p) / 4, and each n has such a and p. So `root_bits n` is nearest. Assumes nothing.
use mathlib.Core.Path.{◌≡◌, refl, sym, ap, ◌∙◌}
use Prim.Native.Nat.{ℕ, zero, suc, ◌+◌, ◌-◌, ◌*◌, ◌/◌, ◌%◌, ◌^◌, ◌≤◌, ◌<◌}
use native.Mathlib.Nat.{
  add-mul,
  mul_assoc,
  mul_comm,
  mul_left_comm,
  mul-pos,
  mul-le-mul_right,
  mul-lt-mul_of_pos_right,
  pow-suc,
  le-div_iff_mul-le,
  div-lt_iff_lt-mul,
}
use native.Mathlib.Decide.{dec_lt}
use native.Mathlib.Omega.{arith}
use mathlib.Core.Bool.{Bool, true, false, ◌&&◌}
use lib.Dec.{leb, ltb, lit≤}
use lib.Pow.{pow-add, pow_pos, pow_mono}
use borrow.Author.Tests.{ltb-true, leb-true, lt-ltb, le-ltb, le-leb}
use lib.Ieee.{size}
use lib.Ieee.Digits.{size-le, size-lt}
use Rattle.roots.specs.Roots.{size_of, square_of, NearestRoot, nearest_whole, whole_root, root_bits}
use Rattle.roots.proofs.Whole.{Root, whole-root, root_cut, sq_mono, sq_mul, twice_sq, twice_one_sq, succ_sq}

-- ---- the test's two facts
pub record Near (a y : ℕ) : Type 0 where
  pub low : y * y < a * 2 ^ 52 + y
  pub high : a * 2 ^ 52 ≤ y * y + y

pub near_of : (a y : ℕ) → nearest_whole a y ≡ true → Near a y
unfolding nearest_whole
near_of a y h = go (ltb (y * y) (a * 2 ^ 52 + y)) refl (leb (a * 2 ^ 52) (y * y + y)) refl h
  where
    go : (p : Bool) → ltb (y * y) (a * 2 ^ 52 + y) ≡ p → (q : Bool) → leb (a * 2 ^ 52) (y * y + y) ≡ q → p && q ≡ true → Near a y
    go true e true f h = record { low = ltb-true _ _ e; high = leb-true _ _ f }
    go true e false f h = let z : ◌≡◌ {A = ℕ} 0 1 = cc in absurd (omega arith)
    go false e q f h = let z : ◌≡◌ {A = ℕ} 0 1 = cc in absurd (omega arith)

near_test : (a y : ℕ) → Near a y → nearest_whole a y ≡ true
unfolding nearest_whole
near_test a y n = rw (lt-ltb _ _ n.low, le-leb _ _ n.high)

-- half the whole root of a * 2 ^ 54, rounded, is nearest to the root of a * 2 ^ 52
pub root_near : (a r : ℕ) → 0 < r → Root (a * 2 ^ 54) r → Near a ((r + 1) / 2)
root_near a r r+ p = go (dec_lt (r % 2) 1)
  where
    y : ℕ
    y = (r + 1) / 2

    go : Dec (r % 2 < 1) → Near a ((r + 1) / 2)
    go (yes h) =
        let e : r ≡ y * 2 = omega arith in
        let m : y * 2 * (y * 2) ≤ a * 2 ^ 54 = rw e at p.most in
        let n : a * 2 ^ 54 < (y * 2 + 1) * (y * 2 + 1) = rw e at p.next in
        record { low = omega (arith, twice_sq y); high = omega (arith, twice_one_sq y) }
    go (no h) =
        let z = y - 1 in
        let e : r ≡ z * 2 + 1 = omega arith in
        let f : r + 1 ≡ y * 2 = omega arith in
        let g : y ≡ z + 1 = omega arith in
        let m : (z * 2 + 1) * (z * 2 + 1) ≤ a * 2 ^ 54 = rw e at p.most in
        let n : a * 2 ^ 54 < y * 2 * (y * 2) = rw f at p.next in
        let k : y * y ≡ z * z + 2 * z + 1 = ap (λ (x : ℕ). x * x) g ∙ succ_sq z in
        record { low = omega (arith, twice_one_sq z); high = omega (arith, twice_sq y) }

module _ (a y : ℕ) (lo : 2 ^ 52 ≤ a) (hi : a + 2 ≤ 2 ^ 54) (n : Near a y) where
  pub near_low : 2 ^ 52 ≤ y
  near_low = go (dec_lt y (2 ^ 52))
    where
      go : Dec (y < 2 ^ 52) → 2 ^ 52 ≤ y
      go (yes l) = let s : y * y ≤ (2 ^ 52 - 1) * (2 ^ 52 - 1) = sq_mono {a = y} {b = 2 ^ 52 - 1} (omega arith) in absurd (omega arith)
      go (no l) = omega arith

  pub near_high : y < 2 ^ 53
  near_high = go (dec_lt y (2 ^ 53))
    where
      go : Dec (y < 2 ^ 53) → y < 2 ^ 53
      go (yes l) = l
      go (no l) =
          let k : 2 ^ 53 ≤ y = omega arith in
          let s : 2 ^ 53 * y ≤ y * y = mul-le-mul_right y k in
          absurd (omega arith)

-- ---- the sizes of a pattern and of its neighbours
pub size-at : (n d f : ℕ) → 2 ^ 52 ≤ n → n % 2 ^ 52 + 2 ^ 52 ≡ d → n / 2 ^ 52 - 1 ≡ f → size_of n ≡ d * 2 ^ f
unfolding size_of
size-at n d f h e g = rw (le-ltb n (2 ^ 52) h, e, g)

pub size_small : (n : ℕ) → n < 2 ^ 52 → size_of n ≡ n
unfolding size_of
size_small n h = rw (lt-ltb n (2 ^ 52) h)

size_in : (p y : ℕ) → 2 ^ 52 ≤ y → y < 2 ^ 53 → size_of (y + p * 2 ^ 52) ≡ y * 2 ^ p
size_in p y h k = size-at (y + p * 2 ^ 52) y p (omega arith) (omega arith) (omega arith)

size_next : (p y : ℕ) → 2 ^ 52 ≤ y → y < 2 ^ 53 → size_of (y + p * 2 ^ 52 + 1) ≡ (y + 1) * 2 ^ p
size_next p y h k = go (dec_lt (y + 1) (2 ^ 53))
  where
    go : Dec (y + 1 < 2 ^ 53) → size_of (y + p * 2 ^ 52 + 1) ≡ (y + 1) * 2 ^ p
    go (yes l) = let e : y + p * 2 ^ 52 + 1 ≡ y + 1 + p * 2 ^ 52 = omega arith in rw e (size_in p (y + 1) (omega arith) l)
    go (no l) =
        let e : y + 1 ≡ 2 ^ 53 = omega arith in
        let u = size-at (y + p * 2 ^ 52 + 1) (2 ^ 52) (p + 1) (omega arith) (omega arith) (omega arith) in
        u ∙ rw (e, pow-add 2 p 1) (omega arith)

size-under : (p : ℕ) → 1 ≤ p → size_of (2 ^ 52 + p * 2 ^ 52 - 1) ≡ (2 ^ 53 - 1) * 2 ^ (p - 1)
size-under p h = size-at (2 ^ 52 + p * 2 ^ 52 - 1) (2 ^ 53 - 1) (p - 1) (omega arith) (omega arith) (omega arith)

size-before : (p y : ℕ) → 2 ^ 52 < y → y < 2 ^ 53 → size_of (y + p * 2 ^ 52 - 1) ≡ (y - 1) * 2 ^ p
size-before p y h k = let e : y + p * 2 ^ 52 - 1 ≡ y - 1 + p * 2 ^ 52 = omega arith in rw e (size_in p (y - 1) (omega arith) (omega arith))

scaled_lt : (x y u : ℕ) → 0 < u → x < y → x * (u * u) < y * (u * u)
scaled_lt x y u p h = mul-lt-mul_of_pos_right h (mul-pos p p)

-- ---- n's square by whole numbers: a of 53 or 54 digits, and a power p
pub record Split (n a p : ℕ) : Type 0 where
  pub high : a + 2 ≤ 2 ^ 54
  pub some : 1 ≤ p
  pub few : p ≤ 1533
  pub is : 4 * square_of n ≡ a * 2 ^ 54 * (2 ^ p * 2 ^ p)

module _ (n a p y : ℕ) (lo : 2 ^ 52 ≤ a) (s : Split n a p) (t : Near a y) where
  y_low : 2 ^ 52 ≤ y
  y_low = near_low a y lo s.high t

  y_high : y < 2 ^ 53
  y_high = near_high a y lo s.high t

  upper : a * 2 ^ 54 * (2 ^ p * 2 ^ p) < (size_of (y + p * 2 ^ 52) + size_of (y + p * 2 ^ 52 + 1)) * (size_of (y + p * 2 ^ 52) + size_of (y + p * 2 ^ 52 + 1))
  upper =
      let e : y + (y + 1) ≡ y * 2 + 1 = omega arith in
      let f : size_of (y + p * 2 ^ 52) + size_of (y + p * 2 ^ 52 + 1) ≡ (y * 2 + 1) * 2 ^ p =
      rw (size_in p y y_low y_high, size_next p y y_low y_high, ← add-mul, e) in
      rw (f, sq_mul (y * 2 + 1) (2 ^ p)) (scaled_lt (a * 2 ^ 54) ((y * 2 + 1) * (y * 2 + 1)) (2 ^ p) (pow_pos p) (omega (arith, twice_one_sq y)))

  lower_in : 2 ^ 52 < y → (size_of (y + p * 2 ^ 52 - 1) + size_of (y + p * 2 ^ 52)) * (size_of (y + p * 2 ^ 52 - 1) + size_of (y + p * 2 ^ 52)) < a * 2 ^
      54 * (2 ^ p * 2 ^ p)
  lower_in h =
      let z = y - 1 in
      let e : z + y ≡ z * 2 + 1 = omega arith in
      let g : y ≡ z + 1 = omega arith in
      let k : y * y ≡ z * z + 2 * z + 1 = ap (λ (x : ℕ). x * x) g ∙ succ_sq z in
      let f : size_of (y + p * 2 ^ 52 - 1) + size_of (y + p * 2 ^ 52) ≡ (z * 2 + 1) * 2 ^ p =
      rw (size-before p y h y_high, size_in p y y_low y_high, ← add-mul, e) in
      rw (f, sq_mul (z * 2 + 1) (2 ^ p)) (scaled_lt ((z * 2 + 1) * (z * 2 + 1)) (a * 2 ^ 54) (2 ^ p) (pow_pos p) (omega (arith, twice_one_sq z)))

  -- at the smallest digits the float below stands half as far off
  lower_edge : y ≡ 2 ^ 52 → (size_of (y + p * 2 ^ 52 - 1) + size_of (y + p * 2 ^ 52)) * (size_of (y + p * 2 ^ 52 - 1) + size_of (y + p * 2 ^ 52)) < a * 2
      ^ 54 * (2 ^ p * 2 ^ p)
  lower_edge h =
      let w : p ≡ p - 1 + 1 = omega arith in
      let d : 2 ^ p ≡ 2 * 2 ^ (p - 1) = ap (λ (x : ℕ). 2 ^ x) w ∙ pow-add 2 (p - 1) 1 ∙ mul_comm (2 ^ (p - 1)) 2 in
      let f : size_of (y + p * 2 ^ 52 - 1) + size_of (y + p * 2 ^ 52) ≡ (2 ^ 54 - 1) * 2 ^ (p - 1) =
      rw (size_in p y y_low y_high) (rw (h, size-under p s.some, d) (omega arith)) in
      let g : a * 2 ^ 54 * (2 ^ p * 2 ^ p) ≡ a * 2 ^ 56 * (2 ^ (p - 1) * 2 ^ (p - 1)) =
      rw (d, sq_mul 2 (2 ^ (p - 1)), ← mul_assoc) (let z : a * 2 ^ 54 * 4 ≡ a * 2 ^ 56 = omega arith in rw z) in
      rw (f, sq_mul (2 ^ 54 - 1) (2 ^ (p - 1)), g) (scaled_lt ((2 ^ 54 - 1) * (2 ^ 54 - 1)) (a * 2 ^ 56) (2 ^ (p - 1)) (pow_pos (p - 1)) (omega arith))

  pub near_nearest : NearestRoot n (y + p * 2 ^ 52)
  near_nearest = record { above = rw s.is (go (dec_lt (2 ^ 52) y)); below = rw s.is upper }
    where
      go : Dec (2 ^ 52 < y) → (size_of (y + p * 2 ^ 52 - 1) + size_of (y + p * 2 ^ 52)) * (size_of (y + p * 2 ^ 52 - 1) + size_of (y + p * 2 ^ 52)) < a *
          2 ^ 54 * (2 ^ p * 2 ^ p)
      go (yes h) = lower_in h
      go (no h) = lower_edge (omega (arith, y_low))

-- ---- each finite float above zero is split so
regroup : (m k c d : ℕ) → m * c * (k * d) ≡ c * d * (m * k)
regroup m k c d = simp (mul_assoc, mul_comm, mul_left_comm)

-- powers of more digits than omega takes go by hand
four : (x c d : ℕ) → 4 * c ≡ d → 4 * (x * c) ≡ d * x
four x c d e = rw (← e) (simp (mul_assoc, mul_comm))

even_square : (m j : ℕ) → 4 * (m * 2 ^ (j + j) * 2 ^ 1074) ≡ m * 2 ^ 54 * (2 ^ (j + 511) * 2 ^ (j + 511))
even_square m j =
    rw (pow-add 2 j 511, sq_mul (2 ^ j) (2 ^ 511), pow-add 2 j j, regroup m (2 ^ j * 2 ^ j) (2 ^ 54) (2 ^ 511 * 2 ^ 511))
    (four (m * (2 ^ j * 2 ^ j)) (2 ^ 1074) _ refl)

-- a normal float with an even power, and with an odd one
module _ (n : ℕ) (h : 2 ^ 52 ≤ n) (k : n < 0x7FF0_0000_0000_0000) where
  pub split_even : (n / 2 ^ 52 - 1) % 2 ≡ 0 → Split n (n % 2 ^ 52 + 2 ^ 52) ((n / 2 ^ 52 - 1) / 2 + 511)
  unfolding square_of
  split_even o =
      let j = (n / 2 ^ 52 - 1) / 2 in
      let g : n / 2 ^ 52 - 1 ≡ j + j = omega arith in
      record {
        high = omega arith;
        some = omega arith;
        few = omega arith;
        is = rw (size-at n (n % 2 ^ 52 + 2 ^ 52) (j + j) h refl g) (even_square (n % 2 ^ 52 + 2 ^ 52) j);
      }

  pub split_odd : ((n / 2 ^ 52 - 1) % 2 ≡ 0 → ⊥) → Split n ((n % 2 ^ 52 + 2 ^ 52) * 2) ((n / 2 ^ 52 - 1) / 2 + 511)
  unfolding square_of
  split_odd o =
      let j = (n / 2 ^ 52 - 1) / 2 in
      let m = n % 2 ^ 52 + 2 ^ 52 in
      let g : n / 2 ^ 52 - 1 ≡ 1 + (j + j) = omega arith in
      let s : m * 2 ^ (1 + (j + j)) ≡ m * 2 * 2 ^ (j + j) = rw (pow-add 2 1 (j + j), ← mul_assoc) in
      record {
        high = omega arith;
        some = omega arith;
        few = omega arith;
        is = rw (size-at n m (1 + (j + j)) h refl g, s) (even_square (m * 2) j);
      }

-- a subnormal, lifted by fours: each takes one from the power, and there is room for them above 485
pub record Lift (n a p : ℕ) : Type 0 where
  pub split : Split n a p
  pub floor : 485 ≤ p
  pub room : 2 ^ 52 ≤ a * 4 ^ (p - 485)

pub lift_start : (n : ℕ) → 0 < n → n < 2 ^ 52 → Lift n n 511
unfolding square_of
lift_start n p h = record {
  split = record {
    high = omega arith;
    some = lit≤ tt;
    few = lit≤ tt;
    is = rw (size_small n h) (four n (2 ^ 1074) _ refl ∙ mul_comm (2 ^ 1076) n ∙ sym (mul_assoc n (2 ^ 54) (2 ^ 1022)));
  };
  floor = lit≤ tt;
  room = omega arith;
}

room_left : (a k : ℕ) → 2 ^ 52 ≤ a * 4 ^ k → a < 2 ^ 52 → 0 < k
room_left a zero h l = absurd (omega arith)
room_left a (suc k) h l = omega arith

pub lift_some : (n a p : ℕ) → Lift n a p → a < 2 ^ 52 → 485 < p
lift_some n a p l h = omega (arith, room_left a (p - 485) l.room h)

pub lift_step : (n a p : ℕ) → Lift n a p → a < 2 ^ 52 → Lift n (a * 4) (p - 1)
lift_step n a p l h =
    let m = lift_some n a p l h in
    let e : p ≡ p - 1 + 1 = omega arith in
    let d : 2 ^ p ≡ 2 * 2 ^ (p - 1) = ap (λ (x : ℕ). 2 ^ x) e ∙ pow-add 2 (p - 1) 1 ∙ mul_comm (2 ^ (p - 1)) 2 in
    let t : a * 2 ^ 54 * (2 ^ p * 2 ^ p) ≡ a * 4 * 2 ^ 54 * (2 ^ (p - 1) * 2 ^ (p - 1)) =
    rw (d, sq_mul 2 (2 ^ (p - 1)), ← mul_assoc) (let z : a * 2 ^ 54 * 4 ≡ a * 4 * 2 ^ 54 = omega arith in rw z) in
    let f : p - 485 ≡ suc (p - 1 - 485) = omega arith in
    record {
      split = record { high = omega arith; some = omega arith; few = omega arith; is = l.split.is ∙ t };
      floor = omega arith;
      room = rw (f, pow-suc 4 (p - 1 - 485), mul_comm (4 ^ (p - 1 - 485)) 4, ← mul_assoc) at l.room;
    }

-- ---- `root_bits` is nearest
big_root : (a r : ℕ) → 2 ^ 52 ≤ a → Root (a * 2 ^ 54) r → 2 ^ 53 ≤ r
big_root a r h p = go (dec_lt r (2 ^ 53))
  where
    go : Dec (r < 2 ^ 53) → 2 ^ 53 ≤ r
    go (yes l) = let s : (r + 1) * (r + 1) ≤ 2 ^ 53 * 2 ^ 53 = sq_mono {a = r + 1} {b = 2 ^ 53} (omega arith) in absurd (omega arith)
    go (no l) = omega arith

small_root : (a r : ℕ) → a + 2 ≤ 2 ^ 54 → Root (a * 2 ^ 54) r → r < 2 ^ 54
small_root a r h p = go (dec_lt r (2 ^ 54))
  where
    go : Dec (r < 2 ^ 54) → r < 2 ^ 54
    go (yes l) = l
    go (no l) = let s : 2 ^ 54 * 2 ^ 54 ≤ r * r = sq_mono {a = 2 ^ 54} {b = r} (omega arith) in absurd (omega arith)

pub digits_near : (a r : ℕ) → 2 ^ 52 ≤ a → r * r ≤ a * 2 ^ 54 → a * 2 ^ 54 < (r + 1) * (r + 1) → nearest_whole a ((r + 1) / 2) ≡ true
digits_near a r lo h k =
    let p : Root (a * 2 ^ 54) r = record { most = h; next = k } in
    near_test a _ (root_near a r (omega (arith, big_root a r lo p)) p)

-- a number with fifty-four digits before the last p
long : (s p : ℕ) → 2 ^ 53 ≤ s / 2 ^ p → s / 2 ^ p < 2 ^ 54 → size s - 54 ≡ p
long s p h k = go (dec_lt (53 + p) (size s))
  where
    most : size s ≤ 54 + p
    most = size-le s (54 + p) (rw (pow-add 2 54 p) ((div-lt_iff_lt-mul (pow_pos p)).0 k))

    least : 2 ^ (53 + p) ≤ s
    least = rw (pow-add 2 53 p) ((le-div_iff_mul-le (pow_pos p)).0 h)

    go : Dec (53 + p < size s) → size s - 54 ≡ p
    go (yes l) = omega (arith, most)
    go (no l) = let m : size s ≤ 53 + p = omega arith in let u : 2 ^ size s ≤ 2 ^ (53 + p) = pow_mono m in absurd (omega (arith, least, size-lt s))

module _ (n a p : ℕ) (lo : 2 ^ 52 ≤ a) (s : Split n a p) where
  halved : (w : ℕ) → Root (4 * square_of n) w → NearestRoot n ((w / 2 ^ (size w - 54) + 1) / 2 + (size w - 54) * 2 ^ 52)
  halved w h =
      let r = w / 2 ^ p in
      let c : Root (a * 2 ^ 54) r = root_cut (a * 2 ^ 54) p w (rw s.is at h) in
      let l : 2 ^ 53 ≤ r = big_root a r lo c in
      let e : size w - 54 ≡ p = long w p l (small_root a r s.high c) in
      rw e (near_nearest n a p ((r + 1) / 2) lo s (root_near a r (omega arith) c))

  pub split_nearest : NearestRoot n (root_bits n)
  unfolding root_bits
  split_nearest = halved (whole_root (4 * square_of n)) (whole-root (4 * square_of n))
