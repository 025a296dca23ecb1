-- Sums of terms that are not below +0, though -0 may be among them, have the sign plus: from +0 on, no addition of -0 takes it away.
use mathlib.Core.Path.{◌≡◌, subst}
use mathlib.Core.Bool.{true, false}
use mathlib.Core.List.{List, [], ◌∷◌}
use Prim.Native.Nat.{◌+◌, ◌-◌, ◌*◌}
use native.Mathlib.Nat.{zero-mul}
use native.Mathlib.Omega.{arith}
use lib.IntN.{pos}
use lib.Dec.{T}
use lib.Ieee.{Float, nan, inf, fin, Format, binary64, up, down, sum, add, le, fits, of_bits}
use lib.Ieee.Fits.{add-fits}
use borrow.Author.Tests.{le-ltb}
use Rattle.numbers.specs.Rounded.{◌⊕◌, nought, sum_from, sum_of}
use Rattle.sizes.specs.Sizes.{is_plus, Plus, Each, none, more}
use Rattle.sizes.proofs.Rounds.{round_plus}
use Rattle.sizes.proofs.Signed.{test→signed}
use Rattle.sizes.proofs.Signs.{nought-is, nought_plus}
use Rattle.sizes.proofs.Order.{true→T}

add_of : (f : Format) (x y : Float) → T (is_plus x) → T (le (fin false 0 (pos 0)) y) → Plus (add f x y)
unfolding add sum is_plus le
add_of f nan y h k = absurd h
add_of f (inf true) y h k = absurd h
add_of f (inf false) nan h k = absurd k
add_of f (inf false) (inf true) h k = absurd k
add_of f (inf false) (inf false) h k = record { sign = tt }
add_of f (inf false) (fin t n d) h k = record { sign = tt }
add_of f (fin true m e) y h k = absurd h
add_of f (fin false m e) nan h k = absurd k
add_of f (fin false m e) (inf true) h k = absurd k
add_of f (fin false m e) (inf false) h k = record { sign = tt }
add_of f (fin false m e) (fin false n d) h k = round_plus f (m * up e * down d + n * up d * down e) (down e * down d)
add_of f (fin false m e) (fin true n d) h k =
    let s : 0 * 1 * down d + n * up d * 1 ≡ 0 = test→signed false (0 * 1 * down d) true (n * up d * 1) k in
    let z : n * up d ≡ 0 = omega arith in
    let b : n * up d * down e ≡ 0 = rw z (zero-mul (down e)) in
    rw (le-ltb (m * up e * down d) (n * up d * down e) (omega arith)) (round_plus f (m * up e * down d - n * up d * down e) (down e * down d))

-- plus, and no less than +0
pub add-from : {x : Float} (f : Format) (y : Float) → Plus x → le nought y ≡ true → Plus (add f x y)
add-from {x} f y h k = add_of f x y h.sign (subst (λ (z : Float). T (le z y)) nought-is (true→T (le nought y) k))

-- no less than +0
pub record From (x : Float) : Type 0 where
  pub from : le nought x ≡ true

pub sum_from_from : {acc : Float} {xs : List Float} → Plus acc → Each From xs → Plus (sum_from acc xs)
unfolding sum_from
sum_from_from h none = h
sum_from_from {acc = acc} h (more {x = x} {xs = xs} a k) = sum_from_from {acc = add binary64 acc x} (add-from binary64 x h a.from) k

pub sum_of_from : {xs : List Float} → Each From xs → Plus (sum_of xs)
sum_of_from h = sum_from_from nought_plus h

-- a sum is a value of binary64
sum_from_fits : (acc : Float) (xs : List Float) → T (fits binary64 acc) → T (fits binary64 (sum_from acc xs))
unfolding sum_from
sum_from_fits acc [] h = h
sum_from_fits acc (x ∷ xs) h = sum_from_fits (acc ⊕ x) xs (add-fits binary64 acc x)

nought-fits : T (fits binary64 nought)
unfolding of_bits fits
nought-fits = tt

pub sum_fits : (xs : List Float) → T (fits binary64 (sum_of xs))
sum_fits xs = sum_from_fits nought xs nought-fits
