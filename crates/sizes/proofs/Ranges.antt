-- Values between two others: a value held to a range lies there, one that lies there is kept as it is, -0 too, and what lies between
-- two values is no larger in size than they are. Assumes nothing.
use mathlib.Core.Path.{◌≡◌, refl, sym}
use mathlib.Core.Bool.{Bool, true, false, not}
use Prim.Native.Nat.{ℕ, ◌*◌, ◌≤◌, ◌<◌}
use native.Mathlib.Nat.{le_trans, le_of_eq, mul-one, mul_comm}
use native.Mathlib.Omega.{arith}
use lib.Dec.{T}
use lib.Ieee.{Float, nan, inf, fin, up, down, lt, le, is_nan}
use lib.Ieee.Fits.{down_pos}
use lib.Ieee.Positive.{through}
use Rattle.numbers.specs.Rounded.{pick, held, nought, positive_part}
use Rattle.sizes.specs.Sizes.{size_up_to, size_from, AtMost, AtLeast, is_plus, Plus, signed_le}
use Rattle.sizes.proofs.Signed.{test→signed, null, null_le, null_least}
use Rattle.sizes.proofs.Order.{true→T, le_left, le_right, le_back, not_lt, le_self}
use Rattle.sizes.proofs.Signs.{nought_plus, plus_from_nought, plus_not_nan, pick_plus}
use Rattle.sizes.proofs.Sizes.{nought-most}

-- ---- sizes by the order

-- x / p ≤ y / q ≤ N
under : (x y N p q : ℕ) → 0 < q → x * q ≤ y * p → y ≤ N * q → x ≤ N * p
under x y N p q Q h k = le_trans (le_of_eq (sym (mul-one x))) (through x y N p q 1 Q h (le_trans (le_of_eq (mul-one y)) k))

null_under : (x N p : ℕ) → x ≡ 0 → x ≤ N * p
null_under x N p e = omega arith

inner : (N : ℕ) (s : Bool) (a p : ℕ) (u : Bool) (x q : ℕ) (t : Bool) (b r : ℕ) → 0 < p → 0 < r → a ≤ N * p → b ≤ N * r → signed_le s (a * q) u (x * p)
    → signed_le u (x * r) t (b * q) → x ≤ N * q
inner N s a p false x q false b r P R A B h k = under x b N q r R k B
inner N s a p false x q true b r P R A B h k = null_under x N q (null x r R (omega arith))
inner N false a p true x q t b r P R A B h k = null_under x N q (null x p P (omega arith))
inner N true a p true x q t b r P R A B h k = under x a N q p P h A

between : (N : ℕ) (lo x hi : Float) → size_up_to N lo → size_up_to N hi → T (le lo x) → T (le x hi) → size_up_to N x
unfolding le
between N nan x hi a b h k = absurd a
between N (inf s) x hi a b h k = absurd a
between N (fin s m e) nan hi a b h k = absurd h
between N (fin s m e) (inf true) hi a b h k = absurd h
between N (fin s m e) (inf false) nan a b h k = absurd b
between N (fin s m e) (inf false) (inf t) a b h k = absurd b
between N (fin s m e) (inf false) (fin t n d) a b h k = absurd k
between N (fin s m e) (fin u l c) nan a b h k = absurd b
between N (fin s m e) (fin u l c) (inf t) a b h k = absurd b
between N (fin s m e) (fin u l c) (fin t n d) a b h k =
    inner N s (m * up e) (down e) u (l * up c) (down c) t (n * up d) (down d) (down_pos e) (down_pos d) a b
    (test→signed s (m * up e * down c) u (l * up c * down e) h) (test→signed u (l * up c * down d) t (n * up d * down c) k)

-- lo ≤ x ≤ hi, both ends of size at most N
pub between-most : {N : ℕ} {lo hi : Float} (x : Float) → AtMost N lo → AtMost N hi → le lo x ≡ true → le x hi ≡ true → AtMost N x
between-most {N} {lo} {hi} x a b h k = record { size = between N lo x hi a.size b.size (true→T (le lo x) h) (true→T (le x hi) k) }

-- 0 ≤ x ≤ y
pub le_most : {N : ℕ} {x y : Float} → Plus x → le x y ≡ true → AtMost N y → AtMost N x
le_most {N} {x} P h k = between-most x nought-most k (plus_from_nought P) h

beyond : (p q : ℕ) (x y : Float) → T (is_plus x) → size_from p q x → T (le x y) → size_from p q y
unfolding le is_plus
beyond p q nan y P a h = absurd a
beyond p q (inf true) y P a h = absurd P
beyond p q (inf false) nan P a h = absurd h
beyond p q (inf false) (inf t) P a h = tt
beyond p q (inf false) (fin t n d) P a h = absurd h
beyond p q (fin true m e) y P a h = absurd P
beyond p q (fin false m e) nan P a h = absurd h
beyond p q (fin false m e) (inf t) P a h = tt
beyond p q (fin false m e) (fin t n d) P a h = outer p q (m * up e) (down e) t (n * up d) (down d) (down_pos e) (down_pos d) a
    (test→signed false (m * up e * down d) t (n * up d * down e) h)
  where
    outer : (p q x e : ℕ) (t : Bool) (y d : ℕ) → 0 < e → 0 < d → p * e ≤ q * x → signed_le false (x * d) t (y * e) → p * d ≤ q * y
    outer p q x e false y d E D a h = le_trans (through p x y q e d E (le_trans a (le_of_eq (mul_comm q x))) h) (le_of_eq (mul_comm y q))
    outer p q x e true y d E D a h =
        let X : x ≡ 0 = null x d D (omega arith) in
        null_least p d (q * y) (null p e E (null_le (p * e) x q X (le_trans a (le_of_eq (mul_comm q x)))))

-- 0 ≤ x ≤ y
pub le_least : {p q : ℕ} {x : Float} (y : Float) → Plus x → AtLeast p q x → le x y ≡ true → AtLeast p q y
le_least {p} {q} {x} y P a h = record { size = beyond p q x y P.sign a.size (true→T (le x y) h) }

-- ---- a value held to a range

module _ (lo hi x : Float) (N : T (not (is_nan x))) (R : le lo hi ≡ true) where
  -- the first of the two choices
  lifted : (le lo (pick (lt x lo) lo x) ≡ true) × (T (not (is_nan (pick (lt x lo) lo x))))
  lifted = go (lt x lo) refl
    where
      go : (b : Bool) → lt x lo ≡ b → (le lo (pick b lo x) ≡ true) × (T (not (is_nan (pick b lo x))))
      go true e = (le_self lo (le_left lo hi R), le_left lo hi R)
      go false e = (not_lt x lo N (le_left lo hi R) e, N)

  pub held_low : le lo (held lo hi x) ≡ true
  unfolding held
  held_low = go (lt hi (pick (lt x lo) lo x))
    where
      go : (b : Bool) → le lo (pick b hi (pick (lt x lo) lo x)) ≡ true
      go true = R
      go false = lifted.0

  pub held_high : le (held lo hi x) hi ≡ true
  unfolding held
  held_high = go (lt hi (pick (lt x lo) lo x)) refl
    where
      go : (b : Bool) → lt hi (pick (lt x lo) lo x) ≡ b → le (pick b hi (pick (lt x lo) lo x)) hi ≡ true
      go true e = le_self hi (le_right lo hi R)
      go false e = not_lt hi (pick (lt x lo) lo x) (le_right lo hi R) lifted.1 e

  -- x may be an infinity
  pub range_most : {M : ℕ} → AtMost M lo → AtMost M hi → AtMost M (held lo hi x)
  range_most a b = between-most (held lo hi x) a b held_low held_high

pub held_plus : {lo hi x : Float} → Plus lo → Plus hi → Plus x → Plus (held lo hi x)
unfolding held
held_plus {lo} {hi} {x} a b c = pick_plus (lt hi (pick (lt x lo) lo x)) b (pick_plus (lt x lo) a c)

-- what lies in the range stays as it is
pub held-inside : (lo hi x : Float) → lt x lo ≡ false → lt hi x ≡ false → held lo hi x ≡ x
unfolding held
held-inside lo hi x h k = rw (h, k)

-- below it, and above it
pub held_below : (lo hi x : Float) → le lo hi ≡ true → lt x lo ≡ true → held lo hi x ≡ lo
unfolding held
held_below lo hi x R h = rw (h, le_back lo hi R)

pub held-above : (lo hi x : Float) → lt x lo ≡ false → lt hi x ≡ true → held lo hi x ≡ hi
unfolding held
held-above lo hi x h k = rw (h, k)

-- ---- the positive part

pub positive_part-from : (x : Float) → T (not (is_nan x)) → le x (positive_part x) ≡ true
unfolding positive_part
positive_part-from x N = go (lt nought x) refl
  where
    go : (b : Bool) → lt nought x ≡ b → le x (pick b x nought) ≡ true
    go true e = le_self x N
    go false e = not_lt nought x (plus_not_nan nought_plus) N e
