-- The mean of a list: "Sums start at +0 and run in ascending order", and one division by the count.
use Rattle.std.specs.Prelude.{List, length, Float}
use Rattle.numbers.specs.Rounded.{◌⊘◌, real, sum_of}

unfoldable pub mean_of : List Float → Float
mean_of xs = sum_of xs ⊘ real (length xs)
