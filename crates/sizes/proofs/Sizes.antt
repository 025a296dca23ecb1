-- Sizes go through the operations: where the two terms of a rounded operation are of size at most N and M, and the format holds
-- the bound that follows, the result is finite and of size at most that bound. `Held` asks for no room: rounding never passes
-- a number that the format holds. Assumes nothing.
use mathlib.Core.Path.{◌≡◌, sym, ap, ◌∙◌, subst}
use mathlib.Core.Bool.{Bool, true, false, not, ◌&&◌, cond, beq}
use Prim.Native.Nat.{ℕ, zero, suc, ◌+◌, ◌-◌, ◌*◌, ◌^◌, ◌≤◌, ◌<◌}
use native.Mathlib.Nat.{
  le_trans,
  le_of_eq,
  mul_comm,
  mul_assoc,
  mul_left_comm,
  mul_right_comm,
  mul-le-mul,
  mul-le-mul_right,
  mul-mul-mul_comm,
  mul-pos,
  mul-one,
  add-mul,
  le_of_mul-le-mul_right,
  two-pow-succ,
  zero-lt-suc,
}
use native.Mathlib.Omega.{arith}
use lib.Dec.{T, ltb, eqb, eqb→eq}
use lib.Pow.{pow-add, pow_mono}
use lib.Ieee.{Float, nan, inf, fin, Format, binary64, emax, up, down, unlike, round, sum, add, sub, mul, div, lt, is_nan, of_bits, of_int}
use lib.Ieee.Fits.{down_pos}
use lib.Ieee.Exact.{HasValue}
use lib.Ieee.Back.{round_whole}
use lib.Ieee.Scale.{finite}
use Rattle.numbers.specs.Rounded.{pick, nought, positive_part, held, real}
use Rattle.sizes.specs.Sizes.{size_up_to, size_from, AtMost, Within, AtLeast, Held}
use Rattle.sizes.proofs.Numbers.{held_power}
use Rattle.sizes.proofs.Rounds.{neg_most, round_most}

-- ---- what a size says

finite_of : (N : ℕ) (x : Float) → size_up_to N x → T (finite x)
finite_of N nan h = absurd h
finite_of N (inf s) h = absurd h
finite_of N (fin s m e) h = tt

pub most-finite : {N : ℕ} {x : Float} → AtMost N x → T (finite x)
most-finite {N} {x} h = finite_of N x h.size

not_nan_of : (N : ℕ) (x : Float) → size_up_to N x → T (not (is_nan x))
unfolding is_nan
not_nan_of N nan h = h
not_nan_of N (inf s) h = tt
not_nan_of N (fin s m e) h = tt

pub most_not_nan : {N : ℕ} {x : Float} → AtMost N x → T (not (is_nan x))
most_not_nan {N} {x} h = not_nan_of N x h.size

-- ---- weaker bounds

weaken : (N M : ℕ) (x : Float) → N ≤ M → size_up_to N x → size_up_to M x
weaken N M nan l h = h
weaken N M (inf s) l h = h
weaken N M (fin s m e) l h = le_trans h (mul-le-mul_right (down e) l)

pub most_weaken : {N M : ℕ} {x : Float} → N ≤ M → AtMost N x → AtMost M x
most_weaken {N} {M} {x} l h = record { size = weaken N M x l h.size }

pub within_weaken : {x : Float} (j k : ℕ) → j ≤ k → Within j x → Within k x
within_weaken j k l h = most_weaken (pow_mono l) h

-- ---- sum and difference

sides : (x y p q N M : ℕ) → x ≤ N * p → y ≤ M * q → x * q + y * p ≤ (N + M) * (p * q)
sides x y p q N M h k =
    let a : x * q ≤ N * (p * q) = le_trans (mul-le-mul_right q h) (le_of_eq (mul_assoc N p q)) in
    let b : y * p ≤ M * (p * q) = le_trans (mul-le-mul_right p k) (le_of_eq (mul_assoc M q p ∙ ap (λ (z : ℕ). M * z) (mul_comm q p))) in
    let c : (N + M) * (p * q) ≡ N * (p * q) + M * (p * q) = add-mul N M (p * q) in
    omega arith

sum-most : (f : Format) (s : Bool) (a : ℕ) (t : Bool) (b c N : ℕ) → 0 < c → Held f N → a + b ≤ N * c → AtMost N (sum f s a t b c)
unfolding sum
sum-most f s a t b c N C r h = go (beq s t) (ltb a b) (s && ltb b a)
  where
    go : (x y z : Bool) → AtMost N (cond x (round f s (a + b) c) (cond y (round f t (b - a) c) (round f z (a - b) c)))
    go true y z = round_most s (a + b) c C r h
    go false true z = round_most t (b - a) c C r (omega arith)
    go false false z = round_most z (a - b) c C r (omega arith)

add_of : (f : Format) (N M : ℕ) (x y : Float) → Held f (N + M) → size_up_to N x → size_up_to M y → AtMost (N + M) (add f x y)
unfolding add
add_of f N M nan y r h k = absurd h
add_of f N M (inf s) y r h k = absurd h
add_of f N M (fin s m e) nan r h k = absurd k
add_of f N M (fin s m e) (inf t) r h k = absurd k
add_of f N M (fin s m e) (fin t n d) r h k =
    sum-most f s (m * up e * down d) t (n * up d * down e) (down e * down d) (N + M) (mul-pos (down_pos e) (down_pos d)) r
    (sides (m * up e) (n * up d) (down e) (down d) N M h k)

pub add_most : {f : Format} {N M : ℕ} {x y : Float} → Held f (N + M) → AtMost N x → AtMost M y → AtMost (N + M) (add f x y)
add_most {f} {N} {M} {x} {y} r h k = add_of f N M x y r h.size k.size

pub sub-most : {f : Format} {N M : ℕ} {x y : Float} → Held f (N + M) → AtMost N x → AtMost M y → AtMost (N + M) (sub f x y)
unfolding sub
sub-most r h k = add_most r h (neg_most k)

-- ---- product and quotient

mul_of : (f : Format) (N M : ℕ) (x y : Float) → Held f (N * M) → size_up_to N x → size_up_to M y → AtMost (N * M) (mul f x y)
unfolding mul
mul_of f N M nan y r h k = absurd h
mul_of f N M (inf s) y r h k = absurd h
mul_of f N M (fin s m e) nan r h k = absurd k
mul_of f N M (fin s m e) (inf t) r h k = absurd k
mul_of f N M (fin s m e) (fin t n d) r h k =
    round_most (unlike s t) (m * up e * (n * up d)) (down e * down d) (mul-pos (down_pos e) (down_pos d)) r
    (le_trans (mul-le-mul h k) (le_of_eq (mul-mul-mul_comm N (down e) M (down d))))

pub mul_most : {f : Format} {N M : ℕ} {x y : Float} → Held f (N * M) → AtMost N x → AtMost M y → AtMost (N * M) (mul f x y)
mul_most {f} {N} {M} {x} {y} r h k = mul_of f N M x y r h.size k.size

-- x / e at most N, y / d at least p / q, N * q at most R * p: the quotient is at most R
quotient : (x e y d N p q R : ℕ) → 0 < p → x ≤ N * e → p * d ≤ q * y → N * q ≤ R * p → x * d ≤ R * (y * e)
quotient x e y d N p q R P h k l =
    le_of_mul-le-mul_right
    (le_trans (le_of_eq (mul_assoc x d p ∙ ap (λ (z : ℕ). x * z) (mul_comm d p)))
    (le_trans (mul-le-mul h k)
    (le_trans (le_of_eq (regroup N e q y))
    (le_trans (mul-le-mul_right (y * e) l) (le_of_eq (mul_right_comm R p (y * e)))))))
    P
  where
    regroup : (N e q y : ℕ) → N * e * (q * y) ≡ N * q * (y * e)
    regroup N e q y = simp (mul_assoc, mul_comm, mul_left_comm)

pub right_above : (q y a : ℕ) → 0 < a → a ≤ q * y → 0 < y
right_above q zero a h k = absurd (none q a h k)
  where
    none : (q a : ℕ) → 0 < a → a ≤ q * 0 → ⊥
    none q a h k = omega arith
right_above q (suc y) a h k = zero-lt-suc y

div_of : (f : Format) (N p q R : ℕ) (x y : Float) → 0 < p → Held f R → N * q ≤ R * p → size_up_to N x → size_from p q y → AtMost R (div f x y)
unfolding div
div_of f N p q R nan y P r l h k = absurd h
div_of f N p q R (inf s) y P r l h k = absurd h
div_of f N p q R (fin s m e) nan P r l h k = absurd k
div_of f N p q R (fin s m e) (inf t) P r l h k = record { size = nothing R }
  where
    nothing : (R : ℕ) → 0 * 1 ≤ R * 1
    nothing R = omega arith
div_of f N p q R (fin s m e) (fin t n d) P r l h k = go (eqb n 0) (eqb→eq n 0)
  where
    y+ : 0 < n * up d
    y+ = right_above q (n * up d) (p * down d) (mul-pos P (down_pos d)) k

    gone : (n u : ℕ) → 0 < n * u → n ≡ 0 → ⊥
    gone zero u h z = omega arith
    gone (suc n) u h z = omega arith

    go : (b : Bool) → (T b → n ≡ 0) → AtMost R (cond b (cond (eqb m 0) nan (inf (unlike s t))) (round f (unlike s t) (m * up e * down d) (n * up d * down e)))
    go true z = absurd (gone n (up d) y+ (z tt))
    go false z =
        round_most (unlike s t) (m * up e * down d) (n * up d * down e) (mul-pos y+ (down_pos e)) r
        (quotient (m * up e) (down e) (n * up d) (down d) N p q R P h k l)

-- by what is at least p / q in size
pub div_most : {f : Format} {N p q R : ℕ} {x y : Float} → 0 < p → Held f R → N * q ≤ R * p → AtMost N x → AtLeast p q y → AtMost R (div f x y)
div_most {f} {N} {p} {q} {R} {x} {y} P r l h k = div_of f N p q R x y P r l h.size k.size

-- ---- the same in powers of two

pub add-within : {x y : Float} (f : Format) (k : ℕ) → suc k ≤ emax f → Within k x → Within k y → Within (suc k) (add f x y)
add-within {x} {y} f k u h l = subst (λ (n : ℕ). AtMost n (add f x y)) (sym (two-pow-succ k))
    (add_most (subst (λ (n : ℕ). Held f n) (two-pow-succ k) (held_power (suc k) u)) h l)

pub sub_within : {x y : Float} (f : Format) (k : ℕ) → suc k ≤ emax f → Within k x → Within k y → Within (suc k) (sub f x y)
unfolding sub
sub_within f k u h l = add-within f k u h (neg_most l)

pub mul-within : {x y : Float} (f : Format) (j k : ℕ) → j + k ≤ emax f → Within j x → Within k y → Within (j + k) (mul f x y)
mul-within {x} {y} f j k u h l = subst (λ (n : ℕ). AtMost n (mul f x y)) (sym (pow-add 2 j k))
    (mul_most (subst (λ (n : ℕ). Held f n) (pow-add 2 j k) (held_power (j + k) u)) h l)

pub div-within : {x y : Float} (f : Format) (j k : ℕ) → j + k ≤ emax f → Within j x → AtLeast 1 (2 ^ k) y → Within (j + k) (div f x y)
div-within f j k u h l = div_most (zero-lt-suc 0) (held_power (j + k) u) (le_of_eq (sym (pow-add 2 j k) ∙ sym (mul-one (2 ^ (j + k))))) h l

-- ---- a choice, the positive part, a value held to a range

pub pick-most : {N : ℕ} {x y : Float} (b : Bool) → AtMost N x → AtMost N y → AtMost N (pick b x y)
pick-most true h k = h
pick-most false h k = k

pub nought-most : {N : ℕ} → AtMost N nought
nought-most {N} = record { size = unfold of_bits in nothing N }
  where
    nothing : (N : ℕ) → 0 * 1 ≤ N * 1
    nothing N = omega arith

pub positive_part-most : {N : ℕ} {x : Float} → AtMost N x → AtMost N (positive_part x)
unfolding positive_part
positive_part-most {N} {x} h = pick-most (lt nought x) h nought-most

pub held-most : {N : ℕ} {lo hi x : Float} → AtMost N lo → AtMost N hi → AtMost N x → AtMost N (held lo hi x)
unfolding held
held-most {N} {lo} {hi} {x} l u h = pick-most (lt hi (pick (lt x lo) lo x)) u (pick-most (lt x lo) l h)

-- ---- a value that is known as a fraction, a whole number as a float
-- A literal's size is computed: under `unfolding of_bits`, `record { size = lit≤ tt }` is an `AtMost N (bits b)` and an `AtLeast p q (bits b)`;
-- under `unfolding of_bits is_plus`, `record { sign = tt }` is a `Plus (bits b)`.

up_to_of_value : (N a c : ℕ) (s : Bool) (x : Float) → 0 < c → HasValue x s a c → a ≤ N * c → size_up_to N x
up_to_of_value N a c s nan C v h = absurd v
up_to_of_value N a c s (inf t) C v h = absurd v
up_to_of_value N a c s (fin t m e) C v h =
    le_of_mul-le-mul_right (le_trans (le_of_eq v.1) (le_trans (mul-le-mul_right (down e) h) (le_of_eq (mul_right_comm N c (down e))))) C

pub value-most : {N : ℕ} {x : Float} (s : Bool) (a c : ℕ) → 0 < c → HasValue x s a c → a ≤ N * c → AtMost N x
value-most {N} {x} s a c C v h = record { size = up_to_of_value N a c s x C v h }

pub real-value : (n : ℕ) → n ≤ 2 ^ 53 → HasValue (real n) false n 1
unfolding of_int
real-value n h = round_whole binary64 false n h

pub real-most : {N : ℕ} (n : ℕ) → n ≤ 2 ^ 53 → n ≤ N → AtMost N (real n)
real-most {N} n h l = value-most false n 1 (zero-lt-suc 0) (real-value n h) (le_trans l (le_of_eq (sym (mul-one N))))
