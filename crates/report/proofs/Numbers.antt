-- The number of a whole input, from what its parts say. Assumes nothing.
use mathlib.Core.Path.{◌≡◌, refl}
use mathlib.Core.Bool.{Bool, true, false}
use Rattle.numbers.specs.Refusals.{lowest}

-- data of a wrong length are refused whatever their values are
pub lowest_short : (shape whole fine other : Bool) → whole ≡ false → lowest shape whole true fine ≡ lowest shape whole true other
lowest_short true whole fine other e = rw e
lowest_short false whole fine other e = refl
