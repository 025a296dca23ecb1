-- Document 02, No. 7, as in structure.rs `feature_vectors`: the RMS of a feature row's samples, which are those that there are: the last row may have fewer.
use Rattle.std.specs.Prelude.{ℕ, Bool, List, map, length, Float}
use Rattle.std.specs.Float.{binary32}
use Rattle.std.specs.Float.Ieee.{of_bits}
use Rattle.numbers.specs.Rounded.{◌⊘◌, real, sum_of, squared}
use Rattle.numbers.specs.Limits.{sized}
use Rattle.numbers.specs.Lists.{row}
use Rattle.roots.specs.Roots.{sqrt_of}

-- 2^128 - 2^104, the largest finite value of binary32
abbrev pub single_top : Float
single_top = of_bits binary32 0x7F7F_FFFF

-- number 4 of a sample, which is a binary32 value: it is finite
unfoldable pub sample_fine : Float → Bool
sample_fine x = sized single_top x

-- the root of the mean of the squares, summed in ascending order
unfoldable pub rms_of : List Float → Float
unfolding sqrt_of
rms_of samples = sqrt_of (sum_of (map squared samples) ⊘ real (length samples))

-- that of feature row i, of `size` samples or what is left
unfoldable pub rms_at : List Float → (size i : ℕ) → Float
unfolding rms_of
rms_at samples size i = rms_of (row samples size i)
