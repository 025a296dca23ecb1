-- Document 02, No. 7: "twelve chroma over the greatest, three band fractions, RMS"; "A zero maximum or total leaves zeros." The Rust: structure.rs
-- `feature_vectors`.
use Rattle.std.specs.Prelude.{ℕ, ◌+◌, ◌-◌, ◌*◌, ◌%◌, min, List, ltb, get_or, Float}
use Rattle.std.specs.Float.{nan}
use Rattle.std.specs.Float.Ieee.{lt}
use Rattle.numbers.specs.Rounded.{◌⊕◌, ◌⊘◌, nought, pick}
use Rattle.numbers.specs.Limits.{feature_width}
use Rattle.numbers.specs.Lists.{curve, filled}
use Rattle.flux_rows.specs.declared.Four.{Four}
use Rattle.sections.specs.Confidence.{greatest_from}

-- pitch classes of an octave
abbrev pub class_count : ℕ
class_count = 12

-- the greatest of a list, and at least +0
abbrev pub greatest_of : List Float → Float
greatest_of xs = greatest_from nought xs

-- a part of a whole, and +0 where the whole is not above 0
unfoldable pub part_of : (part whole : Float) → Float
part_of part whole = pick (lt nought whole) (part ⊘ whole) nought

-- value j of a feature row with these sums of pitch classes and of bands, and this RMS
unfoldable pub value_from : (class band : ℕ → Float) (rms : Float) (j : ℕ) → Float
unfolding greatest_from part_of
value_from class band rms j =
    pick (ltb j class_count) (part_of (class j) (greatest_of (curve class class_count)))
    (pick (ltb j 15) (part_of (band (j - class_count)) (band 0 ⊕ band 1 ⊕ band 2)) rms)

-- ---- for the code alone, which has the sums of four feature rows side by side: a slot of a lane's feature row

abbrev pub lane_sum : List Float → (lane p : ℕ) → Float
lane_sum sums lane p = get_or sums (p * 4 + lane) nan

abbrev pub lane_total : List Float → (lane : ℕ) → Float
lane_total bands lane = lane_sum bands lane 0 ⊕ lane_sum bands lane 1 ⊕ lane_sum bands lane 2

unfoldable pub lane_value : (classes bands : List Float) (lane : ℕ) (rms : Float) (slot : ℕ) → Float
unfolding value_from
lane_value classes bands lane rms slot = value_from (lane_sum classes lane) (lane_sum bands lane) rms (slot % feature_width)

-- a lent list with a lane's feature row written, row i where there is one
unfoldable pub lane_filled : (classes bands : List Float) (lane : ℕ) (rms : Float) (i count : ℕ) (was : List Float) → List Float
lane_filled classes bands lane rms i count was =
    filled (lane_value classes bands lane rms) was (min i count * feature_width) (min (i + 1) count * feature_width)

-- with four lanes' feature rows, i to i + 3
unfoldable pub lanes_filled : (classes bands : List Float) (rms : Four) (i count : ℕ) (was : List Float) → List Float
unfolding lane_filled
lanes_filled classes bands rms i count was =
    lane_filled classes bands 3 rms.d (i + 3) count
    (lane_filled classes bands 2 rms.c (i + 2) count (lane_filled classes bands 1 rms.b (i + 1) count (lane_filled classes bands 0 rms.a i count was)))
