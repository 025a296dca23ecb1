-- Times of frames: what half up means, how far apart times lie, that they rise, and how large they are. Assumes nothing.
use mathlib.Core.Path.{◌≡◌, sym, ap, ◌∙◌}
use Prim.Native.Nat.{ℕ, ◌+◌, ◌-◌, ◌*◌, ◌/◌, ◌%◌, ◌≤◌, ◌<◌}
use native.Mathlib.Nat.{
  le-div_iff_mul-le,
  div-lt_iff_lt-mul,
  div-mul-le_self,
  lt-div-mul-add,
  div-eq_of_lt-le,
  div-add-mod',
  mod-lt,
  mul-le-mul_right,
  add-mul,
  mul_assoc,
  mul_comm,
}
use native.Mathlib.Omega.{arith}
use Rattle.times.specs.Micros.{sample_of, half_up, microseconds}

-- what half up means: q is the only number with a - b/2 < q·b ≤ a + b/2
module _ (a b : ℕ) (h : 0 < b) where
  pub half-low : half_up a b * (b * 2) ≤ a * 2 + b
  half-low = div-mul-le_self (a * 2 + b) (b * 2)

  pub half_high : a * 2 + b < half_up a b * (b * 2) + b * 2
  half_high = lt-div-mul-add (omega arith)

  pub half_only : (q : ℕ) → q * (b * 2) ≤ a * 2 + b → a * 2 + b < q * (b * 2) + b * 2 → q ≡ half_up a b
  half_only q low high = sym (div-eq_of_lt-le {k = q} (b * 2) low (rw (add-mul q 1 (b * 2)) (omega arith)))

  -- by the rest of the division: from one half on the next whole number is nearer or as near
  pub half_next : b ≤ a % b * 2 → a / b + 1 ≡ half_up a b
  half_next k =
      let e = div-add-mod' a b in
      let l : a % b < b = mod-lt a h in
      let t : a / b * (b * 2) ≡ a / b * b * 2 = sym (mul_assoc (a / b) b 2) in
      half_only (a / b + 1) (rw (add-mul (a / b) 1 (b * 2)) (omega arith)) (rw (add-mul (a / b) 1 (b * 2)) (omega arith))

  pub half-same : a % b * 2 < b → a / b ≡ half_up a b
  half-same k =
      let e = div-add-mod' a b in
      let t : a / b * (b * 2) ≡ a / b * b * 2 = sym (mul_assoc (a / b) b 2) in
      half_only (a / b) (omega arith) (omega arith)

-- n frames more are at least 1,333 microseconds each
module _ (rate : ℕ) (h : 0 < rate) (k : rate ≤ 192000) where
  pub apart : (t n : ℕ) → microseconds t rate + n * 1333 ≤ microseconds (t + n) rate
  unfolding microseconds
  apart t n =
      let q = half_up (sample_of t * 1000000) rate in
      let d = rate * 2 in
      let low = half-low (sample_of t * 1000000) rate h in
      let one : 1333 * d ≤ 512000000 = omega arith in
      let many : 1333 * d * n ≤ 512000000 * n = mul-le-mul_right n one in
      let e : n * 1333 * d ≡ 1333 * d * n =
      ap (λ (x : ℕ). x * d) (mul_comm n 1333) ∙ mul_assoc 1333 n d ∙ ap (λ (x : ℕ). 1333 * x) (mul_comm n d) ∙ sym (mul_assoc 1333 d n) in
      (le-div_iff_mul-le {k = d} (omega arith)).1 (rw (add-mul q (n * 1333) d) (omega arith))

  -- a later frame has a later time, so no two frames share a microsecond
  pub rising : (t u : ℕ) → t < u → microseconds t rate + 1333 ≤ microseconds u rate
  rising t u l =
      let e : t + (u - t) ≡ u = omega arith in
      let a : microseconds t rate + (u - t) * 1333 ≤ microseconds u rate = rw e at (apart t (u - t)) in
      omega arith

-- the time of a frame is at most its sample's number in microseconds, as at rate 1
pub time_most : (t rate : ℕ) → 0 < rate → microseconds t rate ≤ sample_of t * 1000000
unfolding microseconds
time_most t rate h =
    let a = sample_of t * 1000000 in
    let m : 1 * (a * 2) ≤ rate * (a * 2) = mul-le-mul_right (a * 2) h in
    let e : a * (rate * 2) ≡ rate * (a * 2) = mul_comm a (rate * 2) ∙ mul_assoc rate 2 a ∙ ap (λ (x : ℕ). rate * x) (mul_comm 2 a) in
    let f : (a + 1) * (rate * 2) ≡ a * (rate * 2) + 1 * (rate * 2) = add-mul a 1 (rate * 2) in
    let g : half_up a rate < a + 1 = (div-lt_iff_lt-mul {k = rate * 2} (omega arith)).1 (omega arith) in
    omega arith

-- the largest frame that document 02 ever lists (No. 11), at any rate: far below 2 ^ 64
pub time_fits : (t rate : ℕ) → 0 < rate → t ≤ 8388607 → microseconds t rate ≤ 2147483904000000
time_fits t rate h k = omega (arith, time_most t rate h)
