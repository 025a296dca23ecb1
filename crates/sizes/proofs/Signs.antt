-- Signs: what sums, products, quotients and squares of values with a plus sign have, and how a plus sign stands to the order.
-- Assumes nothing.
use mathlib.Core.Path.{◌≡◌, refl, sym, subst}
use mathlib.Core.List.{List}
use mathlib.Core.Bool.{Bool, true, false, not, cond}
use Prim.Native.Nat.{ℕ, zero, suc, ◌+◌, ◌*◌, ◌≤◌, ◌<◌}
use native.Mathlib.Omega.{arith}
use lib.IntN.{pos}
use lib.Dec.{T, eqb, eqb→eq, ltb→lt}
use lib.Ieee.{Float, nan, inf, fin, Format, binary64, up, down, round, sum, add, mul, div, lt, le, is_nan, of_bits, of_int}
use lib.Ieee.Bits.{is_true}
use lib.Ieee.Scale.{finite}
use Rattle.numbers.specs.Rounded.{pick, nought, real, positive_part, sum_from, sum_of}
use Rattle.sizes.specs.Sizes.{is_plus, Plus, Each, none, more}
use Rattle.sizes.proofs.Rounds.{round_plus}
use Rattle.sizes.proofs.Signed.{signed→test}

-- ---- the operations

add_of : (f : Format) (x y : Float) → T (is_plus x) → T (is_plus y) → Plus (add f x y)
unfolding add sum is_plus
add_of f nan y h k = absurd h
add_of f (inf true) y h k = absurd h
add_of f (inf false) nan h k = absurd k
add_of f (inf false) (inf true) h k = absurd k
add_of f (inf false) (inf false) h k = record { sign = tt }
add_of f (inf false) (fin t n d) h k = record { sign = tt }
add_of f (fin true m e) y h k = absurd h
add_of f (fin false m e) nan h k = absurd k
add_of f (fin false m e) (inf true) h k = absurd k
add_of f (fin false m e) (inf false) h k = record { sign = tt }
add_of f (fin false m e) (fin true n d) h k = absurd k
add_of f (fin false m e) (fin false n d) h k = round_plus f (m * up e * down d + n * up d * down e) (down e * down d)

pub add_plus : {x y : Float} (f : Format) → Plus x → Plus y → Plus (add f x y)
add_plus {x} {y} f h k = add_of f x y h.sign k.sign

mul_of : (f : Format) (x y : Float) → T (finite x) → T (finite y) → T (is_plus x) → T (is_plus y) → Plus (mul f x y)
unfolding mul is_plus
mul_of f nan y X Y h k = absurd X
mul_of f (inf s) y X Y h k = absurd X
mul_of f (fin s m e) nan X Y h k = absurd Y
mul_of f (fin s m e) (inf t) X Y h k = absurd Y
mul_of f (fin true m e) (fin t n d) X Y h k = absurd h
mul_of f (fin false m e) (fin true n d) X Y h k = absurd k
mul_of f (fin false m e) (fin false n d) X Y h k = round_plus f (m * up e * (n * up d)) (down e * down d)

-- an infinity times a zero is a NaN, so both are finite
pub mul_plus : {x y : Float} (f : Format) → T (finite x) → T (finite y) → Plus x → Plus y → Plus (mul f x y)
mul_plus {x} {y} f X Y h k = mul_of f x y X Y h.sign k.sign

square_of_lem : (f : Format) (x : Float) → T (not (is_nan x)) → Plus (mul f x x)
unfolding mul is_plus is_nan
square_of_lem f nan h = absurd h
square_of_lem f (inf true) h = record { sign = tt }
square_of_lem f (inf false) h = record { sign = tt }
square_of_lem f (fin true m e) h = round_plus f (m * up e * (m * up e)) (down e * down e)
square_of_lem f (fin false m e) h = round_plus f (m * up e * (m * up e)) (down e * down e)

pub square_plus : (f : Format) (x : Float) → T (not (is_nan x)) → Plus (mul f x x)
square_plus f x h = square_of_lem f x h

pub nought-is : nought ≡ fin false 0 (pos 0)
unfolding of_bits
nought-is = refl

div_of : (f : Format) (x y : Float) → T (finite x) → T (is_plus x) → T (lt (fin false 0 (pos 0)) y) → Plus (div f x y)
unfolding div lt is_plus
div_of f nan y X h k = absurd X
div_of f (inf s) y X h k = absurd X
div_of f (fin true m e) y X h k = absurd h
div_of f (fin false m e) nan X h k = absurd k
div_of f (fin false m e) (inf true) X h k = absurd k
div_of f (fin false m e) (inf false) X h k = record { sign = tt }
div_of f (fin false m e) (fin true n d) X h k = absurd k
div_of f (fin false m e) (fin false zero d) X h k = absurd (none (down d) (up d) (ltb→lt (0 * 1 * down d) (0 * up d * 1) k))
  where
    none : (u v : ℕ) → 0 * 1 * u < 0 * v * 1 → ⊥
    none u v h = omega arith
div_of f (fin false m e) (fin false (suc n) d) X h k = go (eqb (suc n) 0) (eqb→eq (suc n) 0)
  where
    go : (b : Bool) → (T b → suc n ≡ 0) → Plus (cond b (cond (eqb m 0) nan (inf false)) (round f false (m * up e * down d) (suc n * up d * down e)))
    go true z = absurd (none (z tt))
      where
        none : suc n ≡ 0 → ⊥
        none z = omega arith
    go false z = round_plus f (m * up e * down d) (suc n * up d * down e)

-- the divisor is above 0, an infinity or not
pub div_plus : {x : Float} (f : Format) (y : Float) → T (finite x) → Plus x → lt nought y ≡ true → Plus (div f x y)
div_plus {x} f y X h k = div_of f x y X h.sign (subst (λ (z : Float). T (lt z y)) nought-is (subst T (sym k) tt))

pub sum_from_plus : {acc : Float} {xs : List Float} → Plus acc → Each Plus xs → Plus (sum_from acc xs)
unfolding sum_from
sum_from_plus h none = h
sum_from_plus {acc} h (more {x = x} {xs = xs} a k) = sum_from_plus {acc = add binary64 acc x} {xs = xs} (add_plus binary64 h a) k

pub nought_plus : Plus nought
unfolding of_bits is_plus
nought_plus = record { sign = tt }

pub sum_plus : {xs : List Float} → Each Plus xs → Plus (sum_of xs)
sum_plus h = sum_from_plus nought_plus h

pub real_plus : (n : ℕ) → Plus (real n)
unfolding of_int
real_plus n = round_plus binary64 n 1

pub pick_plus : {x y : Float} (b : Bool) → Plus x → Plus y → Plus (pick b x y)
pick_plus true h k = h
pick_plus false h k = k

-- ---- the order

above_of : (x : Float) → T (lt (fin false 0 (pos 0)) x) → T (is_plus x)
unfolding lt is_plus
above_of nan h = h
above_of (inf true) h = h
above_of (inf false) h = tt
above_of (fin true m e) h = h
above_of (fin false m e) h = tt

-- above 0
pub above_plus : (x : Float) → lt nought x ≡ true → Plus x
above_plus x h = record { sign = above_of x (subst (λ (z : Float). T (lt z x)) nought-is (subst T (sym h) tt)) }

from_of : (x : Float) → T (is_plus x) → T (le (fin false 0 (pos 0)) x)
unfolding le is_plus
from_of nan h = h
from_of (inf true) h = h
from_of (inf false) h = tt
from_of (fin true m e) h = absurd h
from_of (fin false m e) h = signed→test false (0 * 1 * down e) false (m * up e * 1) (nothing (down e) (m * up e))
  where
    nothing : (u v : ℕ) → 0 * 1 * u ≤ v * 1
    nothing u v = omega arith

-- not negative
pub plus_from_nought : {x : Float} → Plus x → le nought x ≡ true
plus_from_nought {x} h = is_true (le nought x) (subst (λ (z : Float). T (le z x)) (sym nought-is) (from_of x h.sign))

plus_number : (x : Float) → T (is_plus x) → T (not (is_nan x))
unfolding is_plus is_nan
plus_number nan h = h
plus_number (inf s) h = tt
plus_number (fin s m e) h = tt

pub plus_not_nan : {x : Float} → Plus x → T (not (is_nan x))
plus_not_nan {x} h = plus_number x h.sign

pub positive_part_plus : (x : Float) → Plus (positive_part x)
unfolding positive_part
positive_part_plus x = go (lt nought x) refl
  where
    go : (b : Bool) → lt nought x ≡ b → Plus (pick b x nought)
    go true e = above_plus x e
    go false e = nought_plus
