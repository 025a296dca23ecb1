-- The curves that texts spell, and how many slots of two curves differ.
use Rattle.std.specs.Prelude.{ℕ, suc, ◌+◌, ◌||◌, List, [], ◌∷◌, eqb, ltb, leb, Float}
use Rattle.std.specs.Float.{binary64}
use Rattle.std.specs.Float.Ieee.{neg, to_bits}
use Rattle.numbers.specs.Rounded.{bits, real, nought, one, half, pick, ◌⊖◌, ◌⊘◌}
use Rattle.numbers.specs.Limits.{value_top}

-- the next above the largest size of a value
abbrev above_top : Float
above_top = bits 0x4950_0000_0000_0001

-- a value far from 0, by its letter; else the distance of a byte from 0
unfoldable pub far_of : ℕ → Float
far_of b =
    pick (eqb b 98) value_top  -- b
    (pick (eqb b 99) (neg value_top)  -- c
    (pick (eqb b 97) above_top  -- a
    (pick (eqb b 100) (neg above_top)  -- d
    (pick (eqb b 105) (one ⊘ nought)  -- i
    (pick (eqb b 106) (neg one ⊘ nought)  -- j
    (pick (eqb b 110) (nought ⊘ nought)  -- n
    (real b ⊖ bits 0x4048_0000_0000_0000)))))))

-- what a byte of a curve stands for: a letter for a value that is no digit
unfoldable pub case_value : ℕ → Float
unfolding far_of
case_value b =
    pick (eqb b 122) (neg nought)  -- z
    (pick (eqb b 116) (bits 0x3FB9_9999_9999_999A)  -- t: a tenth
    (pick (eqb b 113) (bits 0x3FD0_0000_0000_0000)  -- q: a quarter
    (pick (eqb b 104) half  -- h: a half
    (pick (eqb b 102) (bits 0x4004_0000_0000_0000)  -- f: 2.5
    (pick (eqb b 117) (bits 0x4014_0000_0000_0001)  -- u: the next above 5
    (pick (eqb b 118) (bits 0x3FF0_0000_0000_0001)  -- v: the next above 1
    (pick (eqb b 119) (neg (bits 0x3FF0_0000_0000_0001))  -- w
    (pick (eqb b 109) (neg one)  -- m
    (far_of b)))))))))

-- a curve with the values of a text first, as many as both have
unfoldable pub spelled_in : List ℕ → List Float → List Float
spelled_in [] vs = vs
spelled_in (x ∷ xs) [] = []
spelled_in (x ∷ xs) (v ∷ vs) = case_value x ∷ spelled_in xs vs

-- 1 where slot i lies outside first up to past and has not the same bits in both
unfoldable pub differs : ℕ → ℕ → ℕ → Float → Float → ℕ
differs first past i x y = pick (eqb (to_bits binary64 x) (to_bits binary64 y)) 0 (pick (ltb i first || leb past i) 1 0)

-- how many slots, from slot i on, differ outside first up to past
unfoldable pub differing : ℕ → ℕ → ℕ → List Float → List Float → ℕ
differing first past i [] ys = 0
differing first past i (x ∷ xs) [] = 0
differing first past i (x ∷ xs) (y ∷ ys) = differs first past i x y + differing first past (suc i) xs ys
