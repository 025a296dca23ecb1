-- What is no chain, what two chains of M11's envelope score, and a grid with a shorter first gap. Assumes nothing.
use mathlib.Core.Path.{◌≡◌, refl}
use mathlib.Core.Bool.{true}
use mathlib.Core.List.{List, [], ◌∷◌, map}
use Prim.Native.Nat.{ℕ, zero, suc, ◌<◌}
use native.Mathlib.Omega.{arith}
use lib.Ieee.{Float, add, sub, mul, div, neg, lt, le, of_int, of_bits, to_bits}
use Rattle.numbers.specs.Rounded.{real, nought, sum_from}
use Rattle.beat_links.specs.Extensions.{Follows}
use Rattle.beats.specs.Envelopes.{scaled, scaled_by, scale_of}
use Rattle.beats.specs.Grids.{grid_of}
use Rattle.chains.specs.Chains.{frame_at, Chain, chain_score}

-- period 4 has half 2: frame 2 may not follow frame 1, nor frame 9 frame 0
not_short : Chain 4 6 (1 ∷ 2 ∷ []) → ⊥
not_short c = omega (arith, (c.allowed 0 (omega arith)).to)

not_long : Chain 4 10 (0 ∷ 9 ∷ []) → ⊥
not_long c = omega (arith, (c.allowed 0 (omega arith)).from)

-- two frames are a chain where the later may follow the earlier
two : (period n s t : ℕ) → s < t → t < n → Follows period t s → Chain period n (s ∷ t ∷ [])
two period n s t h b w = record { some = omega arith; inside = inside; ascends = ascends; allowed = allowed }
  where
    frames : List ℕ
    frames = s ∷ t ∷ []

    inside : (i : ℕ) → i < 2 → frame_at frames i < n
    inside zero k = omega arith
    inside (suc zero) k = b
    inside (suc (suc i)) k = absurd (omega arith)

    ascends : (i : ℕ) → suc i < 2 → frame_at frames i < frame_at frames (suc i)
    ascends zero k = h
    ascends (suc i) k = absurd (omega arith)

    allowed : (i : ℕ) → suc i < 2 → Follows period (frame_at frames (suc i)) (frame_at frames i)
    allowed zero k = w
    allowed (suc i) k = absurd (omega arith)

-- frame 3 may follow frame 1, frame 8 frame 0, and, below half, frame 1 frame 0
short : Chain 4 6 (1 ∷ 3 ∷ [])
short = two 4 6 1 3 (omega arith) (omega arith) record { later = omega arith; from = omega arith; to = omega arith }

long : Chain 4 10 (0 ∷ 8 ∷ [])
long = two 4 10 0 8 (omega arith) (omega arith) record { later = omega arith; from = omega arith; to = omega arith }

from_zero : Chain 4 6 (0 ∷ 1 ∷ [])
from_zero = two 4 6 0 1 (omega arith) (omega arith) record { later = omega arith; from = omega arith; to = omega arith }

-- M11: 0, 4, 0, 4, 0, 4 with period 2
abbrev envelope : List Float
envelope = map real (0 ∷ 4 ∷ 0 ∷ 4 ∷ 0 ∷ 4 ∷ [])

-- its grid 1, 3, 5 scores 6: three times 4 over the root of the variance, 2, with no penalty
marked-score : chain_score 2 (scaled envelope) (1 ∷ 3 ∷ 5 ∷ []) ≡ real 6
unfolding chain_score scaled_by scale_of sum_from of_int of_bits to_bits add sub mul div neg lt le
marked-score = refl

-- a step of half the period costs more than its frames bring
short_score : lt (chain_score 2 (scaled envelope) (2 ∷ 3 ∷ [])) nought ≡ true
unfolding chain_score scaled_by scale_of sum_from of_int of_bits to_bits add sub mul div neg lt le
short_score = refl

-- a grid may begin with the shorter gap: period 3 has half 2, and here frame 1 follows frame 0
short_grid : grid_of (map real (1000 ∷ 1001 ∷ [])) 3 ≡ 0 ∷ 1 ∷ []
unfolding grid_of sum_from of_int of_bits to_bits add sub mul div neg lt le
short_grid = refl
