-- Document 01, "Sections (001)", similarity: "Similarity slot (i, d), 0 ≤ d ≤ 16: +0 if i + d ≥ F or a norm is 0; else dot/(norm·norm)
-- held to -1..1." F is the number of rows, each of sixteen values.
use Rattle.std.specs.Prelude.{ℕ, ◌+◌, ◌/◌, ◌%◌, Bool, ◌||◌, List, [], ◌∷◌, leb, Float}
use Rattle.std.specs.Float.Ieee.{eq, neg}
use Rattle.numbers.specs.Rounded.{◌⊗◌, ◌⊘◌, nought, pick, sum_of, held}
use Rattle.numbers.specs.Limits.{feature_width, similarity_top}
use Rattle.numbers.specs.Lists.{row}
use Rattle.roots.specs.Roots.{sqrt_of}

-- slots of a row of the similarity: its own, and sixteen more
abbrev pub band_width : ℕ
band_width = 17

-- row i of the features
abbrev pub feature_row : List Float → ℕ → List Float
feature_row features i = row features feature_width i

-- the products of two rows, value by value
unfoldable pub products : List Float → List Float → List Float
products [] ys = []
products (x ∷ xs) [] = []
products (x ∷ xs) (y ∷ ys) = x ⊗ y ∷ products xs ys

-- their sum, in ascending order from +0
unfoldable pub dot_of : List Float → List Float → Float
unfolding products
dot_of xs ys = sum_of (products xs ys)

-- the root of the sum of the squares
unfoldable pub norm_of : List Float → Float
unfolding dot_of sqrt_of
norm_of xs = sqrt_of (dot_of xs xs)

-- "a norm is 0": the rounded norm, so a row whose squares all underflow counts as a row of zeros
unfoldable pub is_zero : Float → Bool
unfolding eq
is_zero norm = eq norm nought

-- "+0 if .. a norm is 0; else .. held to -1..1"
unfoldable pub settled : (quotient norm norm' : Float) → Float
unfolding is_zero held
settled quotient norm norm' = pick (is_zero norm || is_zero norm') nought (held (neg similarity_top) similarity_top quotient)

-- "dot/(norm·norm)", so settled
unfoldable pub similarity_of : (dot norm norm' : Float) → Float
unfolding settled
similarity_of dot norm norm' = settled (dot ⊘ (norm ⊗ norm')) norm norm'

-- slot (i, d)
unfoldable pub slot_at : List Float → (rows i d : ℕ) → Float
unfolding similarity_of dot_of norm_of
slot_at features rows i d =
    let own = feature_row features i in
    let other = feature_row features (i + d) in
    pick (leb rows (i + d)) nought (similarity_of (dot_of own other) (norm_of own) (norm_of other))

-- slot k of the flat slice: "row times 17 plus d"
unfoldable pub similarity_at : List Float → (rows k : ℕ) → Float
unfolding slot_at
similarity_at features rows k = slot_at features rows (k / band_width) (k % band_width)
