-- Tables of floats that are told to be equal by a test that antt computes.
use mathlib.Core.Path.{◌≡◌, refl, ap}
use mathlib.Core.Bool.{Bool, true, false, ◌&&◌, beq}
use mathlib.Core.List.{List, [], ◌∷◌}
use lib.Dec.{T, eqb, eqb→eq}
use lib.IntN.{ℤ, pos, negsuc}
use lib.Ieee.{Float, nan, inf, fin}

pub both_left : (a b : Bool) → T (a && b) → T a
both_left true b t = tt
both_left false b t = t

pub both_right : (a b : Bool) → T (a && b) → T b
both_right true b t = t
both_right false b t = absurd t

-- ---- one float

sign-is : (s t : Bool) → T (beq s t) → s ≡ t
sign-is true true h = refl
sign-is true false h = absurd h
sign-is false true h = absurd h
sign-is false false h = refl

abbrev same_whole : ℤ → ℤ → Bool
same_whole (pos m) (pos n) = eqb m n
same_whole (pos m) (negsuc n) = false
same_whole (negsuc m) (pos n) = false
same_whole (negsuc m) (negsuc n) = eqb m n

whole_is : (d e : ℤ) → T (same_whole d e) → d ≡ e
whole_is (pos m) (pos n) h = ap pos (eqb→eq m n h)
whole_is (pos m) (negsuc n) h = absurd h
whole_is (negsuc m) (pos n) h = absurd h
whole_is (negsuc m) (negsuc n) h = ap negsuc (eqb→eq m n h)

abbrev pub same_float : Float → Float → Bool
same_float nan y = false
same_float (inf s) y = false
same_float (fin s m e) nan = false
same_float (fin s m e) (inf t) = false
same_float (fin s m e) (fin t n d) = beq s t && (eqb m n && same_whole e d)

pub float_is : (x y : Float) → T (same_float x y) → x ≡ y
float_is nan y h = absurd h
float_is (inf s) y h = absurd h
float_is (fin s m e) nan h = absurd h
float_is (fin s m e) (inf t) h = absurd h
float_is (fin s m e) (fin t n d) h =
    let a : s ≡ t = sign-is s t (both_left (beq s t) (eqb m n && same_whole e d) h) in
    let k : T (eqb m n && same_whole e d) = both_right (beq s t) (eqb m n && same_whole e d) h in
    let b : m ≡ n = eqb→eq m n (both_left (eqb m n) (same_whole e d) k) in
    let c : e ≡ d = whole_is e d (both_right (eqb m n) (same_whole e d) k) in
    rw (a, b, c)

-- ---- a row, and a table

abbrev same_row : List Float → List Float → Bool
same_row [] [] = true
same_row [] (y ∷ ys) = false
same_row (x ∷ xs) [] = false
same_row (x ∷ xs) (y ∷ ys) = same_float x y && same_row xs ys

row_is : (xs ys : List Float) → T (same_row xs ys) → xs ≡ ys
row_is [] [] h = refl
row_is [] (y ∷ ys) h = absurd h
row_is (x ∷ xs) [] h = absurd h
row_is (x ∷ xs) (y ∷ ys) h =
    let a : x ≡ y = float_is x y (both_left (same_float x y) (same_row xs ys) h) in
    let b : xs ≡ ys = row_is xs ys (both_right (same_float x y) (same_row xs ys) h) in
    rw (a, b)

abbrev pub same_table : List (List Float) → List (List Float) → Bool
same_table [] [] = true
same_table [] (y ∷ ys) = false
same_table (x ∷ xs) [] = false
same_table (x ∷ xs) (y ∷ ys) = same_row x y && same_table xs ys

pub table_is : (xs ys : List (List Float)) → T (same_table xs ys) → xs ≡ ys
table_is [] [] h = refl
table_is [] (y ∷ ys) h = absurd h
table_is (x ∷ xs) [] h = absurd h
table_is (x ∷ xs) (y ∷ ys) h =
    let a : x ≡ y = row_is x y (both_left (same_row x y) (same_table xs ys) h) in
    let b : xs ≡ ys = table_is xs ys (both_right (same_row x y) (same_table xs ys) h) in
    rw (a, b)
