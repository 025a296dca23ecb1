-- The mean of mapped values: there are as many of them as of those that they come from. Assumes nothing.
use Rattle.std.proofs.Common.{◌≡◌, ℕ, List, map, length, ap}
use lib.ListN.{length-map}
use lib.Ieee.{Float}
use Rattle.numbers.specs.Rounded.{◌⊘◌, real, sum_of}
use Rattle.lists.specs.Means.{mean_of}

pub mean_of_mapped : {A : Type 0} (f : A → Float) (xs : List A) → mean_of (map f xs) ≡ sum_of (map f xs) ⊘ real (length xs)
unfolding mean_of
mean_of_mapped f xs = ap (λ (n : ℕ). sum_of (map f xs) ⊘ real n) (length-map xs f)
