-- The words of the contracts of a choice by rank. No promise of a call is written in them.
--
-- The code compares floats, the sort compares keys: `x < p` says that the key of x lies below p's first key, `x <= p` that it lies below p's
-- key past. The two differ from the key of p itself at a zero, since a comparison takes both zeros for one, and at a NaN, where it fails.
use Rattle.std.specs.Prelude.{ℕ, zero, suc, ◌+◌, ◌≤◌, ◌<◌, ◌≡◌, Bool, not, ◌&&◌, List, [], ◌∷◌, length, take, T, ltb, Float}
use Rattle.std.specs.Float.{nan, inf, fin, binary64}
use Rattle.std.specs.Float.Ieee.{fits, neg, lt, le}
use Rattle.numbers.specs.Rounded.{pick, nought}
use Rattle.floats.specs.TotalOrder.{key}
use Rattle.median.specs.Ranks.{below}

-- the key of +0, one past that of -0
abbrev pub plus_zero : ℕ
plus_zero = 0x8000_0000_0000_0000

-- past each key
abbrev pub past : ℕ
past = 0xFFFF_FFFF_FFFF_FFFF

-- of the values that are not below p the first key
unfoldable pub first_key : Float → ℕ
first_key nan = 0
first_key (inf s) = key (inf s)
first_key (fin s zero e) = 0x7FFF_FFFF_FFFF_FFFF
first_key (fin s (suc m) e) = key (fin s (suc m) e)

-- past the keys of the values up to p
unfoldable pub past_key : Float → ℕ
past_key nan = 0
past_key (inf s) = suc (key (inf s))
past_key (fin s zero e) = 0x8000_0000_0000_0001
past_key (fin s (suc m) e) = suc (key (fin s (suc m) e))

-- the sides of a fence from low to high: 0 below it, 1 in it, and any other number above it
unfoldable pub on_side : ℕ → (low high : Float) → Float → Bool
on_side zero low high x = lt x low
on_side (suc zero) low high x = not (lt x low) && le x high
on_side (suc (suc _)) low high x = not (le x high)

-- the first key of a side, and what is past its last
unfoldable pub side_from : ℕ → (low high : Float) → ℕ
side_from zero low high = 0
side_from (suc zero) low high = first_key low
side_from (suc (suc _)) low high = past_key high

unfoldable pub side_to : ℕ → (low high : Float) → ℕ
side_to zero low high = first_key low
side_to (suc zero) low high = past_key high
side_to (suc (suc _)) low high = past

-- the entries that pass a test, in their order
unfoldable pub passing : (Float → Bool) → List Float → List Float
passing t [] = []
passing t (x ∷ xs) = pick (t x) (x ∷ passing t xs) (passing t xs)

-- a side of a fence, which is two binary64 values, has the entry of a rank of xs: so many entries lie before it, and so many in it
pub record Parted (xs : List Float) (low high : Float) (rank side before size : ℕ) : Type 0 where
  pub low_fits : T (fits binary64 low)
  pub high_fits : T (fits binary64 high)
  pub starts : below (side_from side low high) xs ≡ before
  pub ends : below (side_to side low high) xs ≡ before + size
  pub first : before ≤ rank
  pub last : rank < before + size

-- of the first m entries of xs, ys has those of a side as its first r
pub record Kept (side : ℕ) (low high : Float) (m : ℕ) (xs : List Float) (r : ℕ) (ys : List Float) : Type 0 where
  pub room : length ys ≡ length xs
  pub fewer : r ≤ m
  pub front : take r ys ≡ passing (on_side side low high) (take m xs)

-- the zero of a rank: each entry below +0 stands before it
abbrev pub zero_at : ℕ → List Float → Float
zero_at rank xs = pick (ltb rank (below plus_zero xs)) (neg nought) nought
