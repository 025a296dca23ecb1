-- For the code alone: how the sums of a block of rows grow side by side, one to a lane of an array. No promise of a call is written in these words.
use Rattle.std.specs.Prelude.{ℕ, ◌+◌, ◌-◌, ◌*◌, ◌<◌, min, max, ◌≡◌, List, length, get_or, Float}
use Rattle.std.specs.Float.{nan}
use Rattle.numbers.specs.Rounded.{◌⊕◌, ◌⊗◌, nought}
use Rattle.kernels.specs.Kernel.{places, kernel_at}
use Rattle.row_pairs.specs.Pairs.{band_width}
use Rattle.novelties.specs.Novelty.{turns}

-- ---- a block of rows, and the rows around it

-- rows of a block, one to a lane
abbrev pub lane_count : ℕ
lane_count = 24

-- rows that the kernels of a block take in, one less than lanes and places together
abbrev pub span : ℕ
span = 39

-- slots from those of one distance to those of the next
abbrev pub stride : ℕ
stride = 40

-- slots of all distances that a kernel has, as many as places
abbrev pub near_room : ℕ
near_room = 640

-- ---- the similarities of a block's rows, by how far apart they are

-- those of rows d apart, the first of which stands at slot first + d, laid out from slot d * stride on
unfoldable pub laid_apart : (similarity : List Float) (first d k : ℕ) → Float
laid_apart similarity first d k = get_or similarity (first + d + band_width * (k - d * stride)) nan

-- those of fewer than n apart are laid out
pub record Gathered (similarity : List Float) (first n : ℕ) (near : List Float) : Type 0 where
  pub whole : length near ≡ near_room
  pub slots : (d r : ℕ) → d < n → r < span → get_or near (d * stride + r) nan ≡ get_or similarity (first + d + band_width * r) nan

-- the slot of places u and v around the first row of a block
unfoldable pub near_slot : (u v : ℕ) → ℕ
near_slot u v = (max u v - min u v) * stride + min u v

-- ---- the sums of a block of rows

-- one term more in lane j, whose similarity stands one slot after the lane before
unfoldable pub lane_term : (sums : List Float) (weight : Float) (near : List Float) (k j : ℕ) → Float
lane_term sums weight near k j = get_or sums j nan ⊕ weight ⊗ get_or near (k + j) nan

-- the term of places u and v added to the sum of lane j
unfoldable pub near_term : (near : List Float) (j u v : ℕ) → Float → Float
unfolding kernel_at near_slot
near_term near j u v sum = sum ⊕ kernel_at u v ⊗ get_or near (near_slot u v + j) nan

-- the terms of one u, v ascending
unfoldable pub near_row : (near : List Float) (j u : ℕ) → Float → Float
unfolding turns near_term
near_row near j u sum = turns (near_term near j u) 0 places sum

-- one row of the kernel more in lane j
unfoldable pub lane_row : (sums near : List Float) (u j : ℕ) → Float
unfolding near_row
lane_row sums near u j = near_row near j u (get_or sums j nan)

-- all rows of the kernel in lane j
unfoldable pub lane_whole : (near : List Float) (j : ℕ) → Float
unfolding turns near_row
lane_whole near j = turns (near_row near j) 0 places nought

-- lanes laid out from slot i on
unfoldable pub lane_from : (values : List Float) (i k : ℕ) → Float
lane_from values i k = get_or values (k - i) nan
