-- Sums in ascending order, one term at a time.
use mathlib.Core.Path.{◌≡◌, refl}
use mathlib.Core.List.{List, [], ◌∷◌, ◌++◌}
use Prim.Native.Nat.{ℕ, ◌+◌, ◌≤◌, ◌<◌}
use native.Mathlib.Numerals.{add-one}
use lib.ListN.{length, get_or, drop, drop_of_length-le}
use lib.Seq.{drop-cons}
use lib.Ieee.{Float, nan}
use Rattle.numbers.specs.Rounded.{◌⊕◌, sum_from}

pub sum_step : (acc : Float) (s : List Float) (i : ℕ) → i < length s → sum_from acc (drop i s) ≡ sum_from (acc ⊕ get_or s i nan) (drop (i + 1) s)
unfolding sum_from
sum_step acc s i h = rw (add-one, drop-cons s i nan)

pub sum_end : (acc : Float) (s : List Float) (i : ℕ) → length s ≤ i → sum_from acc (drop i s) ≡ acc
unfolding sum_from
sum_end acc s i h = rw drop_of_length-le

pub sum-append : (acc : Float) (s t : List Float) → sum_from acc (s ++ t) ≡ sum_from (sum_from acc s) t
unfolding sum_from
sum-append acc [] t = refl
sum-append acc (x ∷ xs) t = sum-append (acc ⊕ x) xs t
