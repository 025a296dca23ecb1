-- Document 01, "Beats and bars": "Empty envelope, period 0, or variance at most 2^-52: no beats, score and back untouched. Otherwise the envelope
-- is multiplied by 1/sqrt(variance)."
use Rattle.std.specs.Prelude.{Bool, ◌||◌, List, map, ℕ, eqb, length, get_or, Float}
use Rattle.std.specs.Float.{nan}
use Rattle.std.specs.Float.Ieee.{le}
use Rattle.numbers.specs.Rounded.{◌⊖◌, ◌⊗◌, ◌⊘◌, epsilon, one}
use Rattle.lists.specs.Means.{mean_of}
use Rattle.roots.specs.Roots.{sqrt_of}

-- the square of a value's distance from the mean
unfoldable pub square_about : (mean v : Float) → Float
square_about mean v = (v ⊖ mean) ⊗ (v ⊖ mean)

-- the mean of these squares
unfoldable pub variance_of : List Float → Float
unfolding mean_of square_about
variance_of envelope = mean_of (map (square_about (mean_of envelope)) envelope)

-- "Empty envelope, period 0, or variance at most 2^-52"
unfoldable pub beatless : List Float → (period : ℕ) → Bool
unfolding variance_of
beatless envelope period = eqb (length envelope) 0 || (eqb period 0 || le (variance_of envelope) epsilon)

-- 1/sqrt(variance)
unfoldable pub scale_of : List Float → Float
unfolding variance_of sqrt_of
scale_of envelope = one ⊘ sqrt_of (variance_of envelope)

-- the flux of frame t, multiplied
unfoldable pub scaled_by : (scale : Float) → List Float → ℕ → Float
scaled_by scale envelope t = get_or envelope t nan ⊗ scale

-- the scaled flux of each frame
abbrev pub scaled : List Float → ℕ → Float
scaled envelope = scaled_by (scale_of envelope) envelope
