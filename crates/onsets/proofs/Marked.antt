-- M4, which tells the best of a group from its first peak, and the marked example of the reporting program, computed on the
-- definitions.
use mathlib.Core.List.{List, [], ◌∷◌, map}
use mathlib.Core.Path.{◌≡◌, refl}
use Prim.Native.Nat.{ℕ}
use lib.Dec.{eqb}
use lib.Ieee.{Float, add, sub, mul, div, neg, lt, le, of_int, of_bits, to_bits}
use Rattle.numbers.specs.Limits.{slab_of}
use Rattle.numbers.specs.Lists.{curve, row, around}
use Rattle.numbers.specs.Rounded.{nought, real, pick, sum_from, positive_part}
use Rattle.floats.specs.TotalOrder.{key, turned}
use Rattle.floats.specs.Wholes.{ceil_of}
use Rattle.median.specs.Median.{insert, sort, median_of, absolute, distance, mad_of}
use Rattle.flux.specs.Flux.{rises, flux_at}
use Rattle.threshold.specs.Threshold.{threshold_of, threshold_at}
use Rattle.onsets.specs.Onsets.{gap_of, onsets_of}
use Rattle.onsets.specs.Peaks.{is_peak, those, peaks_of, bests, suppressed}

-- a curve of n slots with these values at these frames, and +0 elsewhere
unfoldable pub valued : (n : ℕ) → (frames values : List ℕ) → List Float
valued n frames values = curve (value frames values) n
  where
    value : List ℕ → List ℕ → ℕ → Float
    value [] vs t = nought
    value (f ∷ fs) [] t = nought
    value (f ∷ fs) (v ∷ vs) t = pick (eqb f t) (real v) (value fs vs t)

-- M4: gap 6, peaks 10, 16, 22 with flux 5, 6, 7: 22 alone
pub M4 : suppressed (valued 24 (10 ∷ 16 ∷ 22 ∷ []) (5 ∷ 6 ∷ 7 ∷ [])) 6 (10 ∷ 16 ∷ 22 ∷ []) ≡ 22 ∷ []
unfolding suppressed bests valued of_int lt
M4 = refl

-- the gap at the program's rate
pub gap_48000 : gap_of 48000 ≡ 6
unfolding gap_of ceil_of of_int of_bits mul div
gap_48000 = refl

-- "Shape (4, 1) with 0, 0, 5, 0": the onset is frame 2
pub example_onsets :
    let s = map real (0 ∷ 0 ∷ 5 ∷ 0 ∷ []) in
    let flux = curve (flux_at s (slab_of 4 1)) 4 in
    onsets_of flux (curve (threshold_at flux) 4) 48000 ≡ 2 ∷ []
unfolding onsets_of peaks_of those is_peak suppressed bests gap_of ceil_of threshold_at threshold_of around median_of mad_of sort insert distance absolute key
    turned flux_at rises row sum_from positive_part of_int of_bits to_bits add sub mul div neg lt le
example_onsets = refl
