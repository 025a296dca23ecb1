-- For the code alone: a block of rows, turned so that one value of neighbouring rows lies side by side, and how several sums grow side by
-- side, one to a lane of an array. No promise of a call is written in these words.
use Rattle.std.specs.Prelude.{ℕ, ◌+◌, ◌-◌, ◌*◌, ◌/◌, ◌%◌, ◌≤◌, ◌<◌, ◌≡◌, List, get_or, Float}
use Rattle.std.specs.Float.{nan}
use Rattle.numbers.specs.Rounded.{◌⊕◌, ◌⊗◌, ◌⊘◌, nought}
use Rattle.numbers.specs.Limits.{feature_width}
use Rattle.numbers.specs.Lists.{curve}
use Rattle.roots.specs.Roots.{sqrt_of}
use Rattle.row_pairs.specs.Pairs.{feature_row, dot_of, settled}

-- rows of a block
abbrev pub columns : ℕ
columns = 128

-- those of them whose slots are written, as the sixteen rows after each are in the block
abbrev pub own_columns : ℕ
own_columns = 112

-- the values of a block
abbrev pub turned_room : ℕ
turned_room = 2048

-- value k of the block's row r stands at k * columns + r
unfoldable pub turned_at : (features : List Float) (first p : ℕ) → Float
turned_at features first p = get_or features ((first + p % columns) * feature_width + p / columns) nan

-- the block's row r, read back
unfoldable pub turned_column : (turned : List Float) (r : ℕ) → List Float
turned_column turned r = curve (λ k. get_or turned (k * columns + r) nan) feature_width

-- the sum of the squares of the block's row r, and the norm from it
unfoldable pub square_at : (features : List Float) (first r : ℕ) → Float
unfolding dot_of
square_at features first r = dot_of (feature_row features (first + r)) (feature_row features (first + r))

unfoldable pub root_at : (squares : List Float) (r : ℕ) → Float
unfolding sqrt_of
root_at squares r = sqrt_of (get_or squares r nan)

-- rows first to first + count - 1 of the features, turned; the sums of their squares, with +0 past them; and the norms
pub record Block (features : List Float) (first count : ℕ) (turned squares norms : List Float) : Type 0 where
  pub column : (r k : ℕ) → r < count → k < feature_width → get_or turned (k * columns + r) nan ≡ get_or features ((first + r) * feature_width + k) nan
  pub square : (r : ℕ) → r < count → get_or squares r nan ≡ square_at features first r
  pub none : (r : ℕ) → r < columns → count ≤ r → get_or squares r nan ≡ nought
  pub norm : (r : ℕ) → r < columns → get_or norms r nan ≡ sqrt_of (get_or squares r nan)

-- seventeen dot products of a row, one to a lane: one product more in lane j
unfoldable pub lane_product : (sums : List Float) (x : Float) (turned : List Float) (at j : ℕ) → Float
lane_product sums x turned at j = get_or sums j nan ⊕ x ⊗ get_or turned (at + j) nan

-- lane d of the row in column c divided by the two norms; and the lanes settled, laid out from slot `at` on
unfoldable pub lane_quotient : (sums norms : List Float) (c d : ℕ) → Float
lane_quotient sums norms c d = get_or sums d nan ⊘ (get_or norms c nan ⊗ get_or norms (c + d) nan)

unfoldable pub settled_from : (quotients norms : List Float) (c at k : ℕ) → Float
unfolding settled
settled_from quotients norms c at k = settled (get_or quotients (k - at) nan) (get_or norms c nan) (get_or norms (c + (k - at)) nan)
