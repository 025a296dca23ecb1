-- Document 01, Sections: "Confidence as in `confidence_of`", and "confidence 0" where there is no boundary.
use Rattle.std.specs.Prelude.{ℕ, List, [], ◌∷◌, map, length, ◌==◌, Float}
use Rattle.std.specs.Float.Ieee.{lt, le, neg}
use Rattle.numbers.specs.Rounded.{◌⊖◌, ◌⊘◌, bits, nought, pick, positive_part, held, one}
use Rattle.lists.specs.Means.{mean_of}
use Rattle.median.specs.Median.{median_of}
use Rattle.onsets.specs.Peaks.{at}

-- the lowest float, -(2 - 2^-52)·2^1023
abbrev pub lowest_float : Float
lowest_float = neg (bits 0x7FEF_FFFF_FFFF_FFFF)

-- the greatest of a float and the values of a list. Of two zeros the earlier stays: where the greatest value is a zero, its sign
-- doesn't reach the confidence, since the range is either a zero, or the same from both.
unfoldable pub greatest_from : Float → List Float → Float
greatest_from top [] = top
greatest_from top (x ∷ xs) = greatest_from (pick (lt top x) x top) xs

-- from the median to the greatest novelty
unfoldable pub range_of : List Float → Float
range_of novelty = greatest_from lowest_float novelty ⊖ median_of novelty

-- how far a row's novelty stands above a median
unfoldable pub prominence : List Float → (med : Float) → ℕ → Float
prominence novelty med row = positive_part (at novelty row ⊖ med)

-- the mean prominence of the boundaries
unfoldable pub mean_prominence : List Float → List ℕ → Float
unfolding mean_of
mean_prominence novelty boundaries = mean_of (map (prominence novelty (median_of novelty)) boundaries)

-- their mean as a part of the range, held to 0..1; 0 where there is no boundary or no range
unfoldable pub confidence_of : List Float → List ℕ → Float
confidence_of novelty boundaries =
    pick (length boundaries == 0) nought
    (pick (le (range_of novelty) nought) nought (held nought one (mean_prominence novelty boundaries ⊘ range_of novelty)))
