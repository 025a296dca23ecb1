-- `round` with a sign: a negative fraction rounds to the negation of what the positive one rounds to, a plus sign stays,
-- and what is at most, or at least, a number that the format holds rounds to no more, or no less. Assumes nothing.
use mathlib.Core.Path.{◌≡◌, refl, sym, ap, ◌∙◌, subst}
use mathlib.Core.Bool.{Bool, true, false, cond, true≢false}
use Prim.Native.Nat.{ℕ, zero, suc, ◌+◌, ◌*◌, ◌^◌, ◌≤◌, ◌<◌}
use native.Mathlib.Nat.{le_trans, le_of_eq, mul_comm, mul-one, zero-lt-suc}
use lib.Dec.{T, ltb}
use lib.Ieee.{Float, nan, inf, fin, Format, prec, emax, low, up, down, units, odd, round, neg, le}
use lib.Ieee.Fits.{down_pos, round_is}
use lib.Ieee.Exact.{HasValue}
use lib.Ieee.Order.{round_mono, kept, drop}
use lib.Ieee.Positive.{through}
use Rattle.sizes.specs.Sizes.{size_up_to, size_from, AtMost, AtLeast, is_plus, Plus, Held, HeldAt}
use Rattle.sizes.proofs.Numbers.{held_at_value, held-value}
use Rattle.sizes.proofs.Signed.{test→signed}

-- ---- the sign

units_neg : (f : Format) (q k : ℕ) → units f true q k ≡ neg (units f false q k)
unfolding units neg
units_neg f q k = go (ltb (q * 2 ^ k) (2 ^ (low f + suc (emax f)))) q
  where
    go : (b : Bool) (q : ℕ) → cond b (odd (suc (prec f)) true q k (low f)) (inf true) ≡ neg (cond b (odd (suc (prec f)) false q k (low f)) (inf false))
    go true zero = refl
    go true (suc q) = refl
    go false q = refl

pub round_neg : (f : Format) (a c : ℕ) → round f true a c ≡ neg (round f false a c)
round_neg f a c = round_is f true a c ∙ units_neg f (kept (prec f) (a * 2 ^ low f) c) (drop (prec f) (a * 2 ^ low f) c) ∙ ap neg (sym (round_is f false a c))

units_plus : (f : Format) (q k : ℕ) → T (is_plus (units f false q k))
unfolding units is_plus
units_plus f q k = go (ltb (q * 2 ^ k) (2 ^ (low f + suc (emax f)))) q
  where
    go : (b : Bool) (q : ℕ) → T (is_plus (cond b (odd (suc (prec f)) false q k (low f)) (inf false)))
    go true zero = tt
    go true (suc q) = tt
    go false q = tt

pub round_plus : (f : Format) (a c : ℕ) → Plus (round f false a c)
round_plus f a c = record {
  sign = subst (λ (x : Float). T (is_plus x)) (sym (round_is f false a c))
      (units_plus f (kept (prec f) (a * 2 ^ low f) c) (drop (prec f) (a * 2 ^ low f) c));
}

-- ---- the size, from above

up_to_of_le : (x y : Float) (N : ℕ) → T (is_plus x) → HasValue y false N 1 → T (le x y) → size_up_to N x
unfolding le is_plus
up_to_of_le nan y N p v h = absurd p
up_to_of_le (inf true) y N p v h = absurd p
up_to_of_le (inf false) nan N p v h = absurd v
up_to_of_le (inf false) (inf t) N p v h = absurd v
up_to_of_le (inf false) (fin t n d) N p v h = absurd h
up_to_of_le (fin true m e) y N p v h = absurd p
up_to_of_le (fin false m e) nan N p v h = absurd v
up_to_of_le (fin false m e) (inf t) N p v h = absurd v
up_to_of_le (fin false m e) (fin true n d) N p v h = absurd (true≢false v.0)
up_to_of_le (fin false m e) (fin false n d) N p v h =
    le_trans (le_of_eq (sym (mul-one (m * up e)))) (through (m * up e) (n * up d) N (down e) (down d) 1 (down_pos d)
    (test→signed false (m * up e * down d) false (n * up d * down e) h) (le_of_eq v.1))

up_to_neg : (N : ℕ) (x : Float) → size_up_to N x → size_up_to N (neg x)
unfolding neg
up_to_neg N nan h = h
up_to_neg N (inf s) h = h
up_to_neg N (fin s m e) h = h

pub neg_most : {N : ℕ} {x : Float} → AtMost N x → AtMost N (neg x)
neg_most {N} {x} h = record { size = up_to_neg N x h.size }

pub round_most : {f : Format} {N : ℕ} (s : Bool) (a c : ℕ) → 0 < c → Held f N → a ≤ N * c → AtMost N (round f s a c)
round_most {f} {N} s a c C r h = go s
  where
    plus : AtMost N (round f false a c)
    plus = record {
      size = up_to_of_le (round f false a c) (round f false N 1) N (round_plus f a c).sign (held-value false r)
          (round_mono f a c N 1 C (zero-lt-suc 0) (le_trans (le_of_eq (mul-one a)) h));
    }

    go : (s : Bool) → AtMost N (round f s a c)
    go false = plus
    go true = subst (λ (x : Float). AtMost N x) (sym (round_neg f a c)) (neg_most plus)

-- ---- the size, from below

from_of_le : (x y : Float) (a c : ℕ) → 0 < c → T (is_plus x) → HasValue y false a c → T (le y x) → size_from a c x
unfolding le is_plus
from_of_le nan y a c C p v h = absurd p
from_of_le (inf s) y a c C p v h = tt
from_of_le (fin true m e) y a c C p v h = absurd p
from_of_le (fin false m e) nan a c C p v h = absurd v
from_of_le (fin false m e) (inf t) a c C p v h = absurd v
from_of_le (fin false m e) (fin true n d) a c C p v h = absurd (true≢false v.0)
from_of_le (fin false m e) (fin false n d) a c C p v h =
    le_trans (through a (n * up d) (m * up e) c (down d) (down e) (down_pos d) (le_of_eq (sym v.1))
    (test→signed false (n * up d * down e) false (m * up e * down d) h)) (le_of_eq (mul_comm (m * up e) c))

from_neg : (p q : ℕ) (x : Float) → size_from p q x → size_from p q (neg x)
unfolding neg
from_neg p q nan h = h
from_neg p q (inf s) h = tt
from_neg p q (fin s m e) h = h

pub neg_least : {p q : ℕ} {x : Float} → AtLeast p q x → AtLeast p q (neg x)
neg_least {p} {q} {x} h = record { size = from_neg p q x h.size }

pub round_least : {f : Format} {p q : ℕ} (s : Bool) (a c : ℕ) → 0 < c → 0 < q → HeldAt f p q → p * c ≤ a * q → AtLeast p q (round f s a c)
round_least {f} {p} {q} s a c C Q r h = go s
  where
    plus : AtLeast p q (round f false a c)
    plus = record {
      size = from_of_le (round f false a c) (round f false p q) p q Q (round_plus f a c).sign (held_at_value false Q r)
          (round_mono f p q a c Q C h);
    }

    go : (s : Bool) → AtLeast p q (round f s a c)
    go false = plus
    go true = subst (λ (x : Float). AtLeast p q x) (sym (round_neg f a c)) (neg_least plus)
