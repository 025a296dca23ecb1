-- The words of the contracts of the sliding window. No promise of a call is written in them.
use Rattle.std.specs.Prelude.{ℕ, ◌≤◌, ◌<◌, ◌≡◌, true, List, get_or, Float}
use Rattle.std.specs.Float.{nan}
use Rattle.numbers.specs.Limits.{value_fine}
use Rattle.numbers.specs.Rounded.{◌⊕◌, ◌⊗◌}
use Rattle.median.specs.Median.{mad_of}
use Rattle.threshold.specs.Threshold.{reach, mad_scale, least_excess}

-- every value of a part of a curve is fine
abbrev pub FinePart : List Float → (first past : ℕ) → Type 0
FinePart c first past = (i : ℕ) → first ≤ i → i < past → value_fine (get_or c i nan) ≡ true

-- the threshold over a whole window that is sorted
unfoldable pub sorted_threshold : List Float → Float
sorted_threshold s = let med = get_or s reach nan in med ⊕ mad_scale ⊗ mad_of s med ⊕ least_excess
