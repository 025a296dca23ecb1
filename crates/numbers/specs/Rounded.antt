-- Document 01, "IEEE 754-2019 binary64 decides each operation": the words that every definition of a float is written in.
use Rattle.std.specs.Prelude.{ℕ, Bool, true, false, List, [], ◌∷◌, pos, Float}
use Rattle.std.specs.Float.{binary64}
use Rattle.std.specs.Float.Ieee.{add, sub, mul, div, of_bits, of_int, lt}

infixl 60 ◌⊕◌ ◌⊖◌
infixl 70 ◌⊗◌ ◌⊘◌
-- the sum, rounded once to binary64
abbrev pub ◌⊕◌ : Float → Float → Float
x ⊕ y = add binary64 x y

-- the difference, rounded once
abbrev pub ◌⊖◌ : Float → Float → Float
x ⊖ y = sub binary64 x y

-- the product, rounded once
abbrev pub ◌⊗◌ : Float → Float → Float
x ⊗ y = mul binary64 x y

-- the quotient, rounded once
abbrev pub ◌⊘◌ : Float → Float → Float
x ⊘ y = div binary64 x y

-- the square, rounded once
abbrev pub squared : Float → Float
squared x = x ⊗ x

-- the float with these sixty-four bits
abbrev pub bits : ℕ → Float
bits n = of_bits binary64 n

-- the whole number n as a float, rounded once
abbrev pub real : ℕ → Float
real n = of_int binary64 (pos n)

-- +0
abbrev pub nought : Float
nought = bits 0

-- 1
abbrev pub one : Float
one = bits 0x3FF0_0000_0000_0000

-- 0.5
abbrev pub half : Float
half = bits 0x3FE0_0000_0000_0000

-- 1000, milliseconds of a second
abbrev pub thousand : Float
thousand = bits 0x408F_4000_0000_0000

-- 256, the samples from a frame to the next
abbrev pub hop : Float
hop = bits 0x4070_0000_0000_0000

-- 2^-52, the difference of 1 and the next float: an energy or a variance of at most so much is none
abbrev pub epsilon : Float
epsilon = bits 0x3CB0_0000_0000_0000

-- a choice by a test
abbrev pub pick : {A : Type 0} → Bool → A → A → A
pick true a b = a
pick false a b = b

-- "Sums start at +0 and run in ascending order": the sum of a list, from acc on
unfoldable pub sum_from : Float → List Float → Float
sum_from acc [] = acc
sum_from acc (x ∷ xs) = sum_from (acc ⊕ x) xs

abbrev pub sum_of : List Float → Float
sum_of xs = sum_from nought xs

-- "The positive part of x is x if x > 0, else +0"
unfoldable pub positive_part : Float → Float
positive_part x = pick (lt nought x) x nought

-- "Holding to a range keeps -0": x held between lo and hi
unfoldable pub held : Float → Float → Float → Float
held lo hi x = let y = pick (lt x lo) lo x in pick (lt hi y) hi y
