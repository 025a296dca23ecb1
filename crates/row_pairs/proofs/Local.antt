-- What a patch leaves alone. A slot of the similarity depends on its two rows alone. So where rows a to a + k - 1 are replaced, the other pairs keep their
-- slots.
use mathlib.Core.Path.{◌≡◌, ap, ◌∙◌}
use mathlib.Core.List.{List}
use mathlib.Core.Logic.{◌⊎◌}
use Prim.Native.Nat.{ℕ, ◌+◌, ◌*◌, ◌/◌, ◌%◌, ◌≤◌, ◌<◌}
use lib.Dec.{leb}
use lib.ListN.{length}
use lib.Ieee.{Float, nan}
use Rattle.numbers.specs.Rounded.{nought, pick}
use Rattle.numbers.specs.Lists.{over}
use Rattle.numbers.proofs.Overs.{row-over}
use Rattle.row_pairs.specs.Pairs.{feature_row, dot_of, norm_of, similarity_of, slot_at, similarity_at}

-- two rows the same, one slot
pub slot_same : (f g : List Float) (rows i d : ℕ) → feature_row g i ≡ feature_row f i → feature_row g (i + d) ≡ feature_row f (i + d)
    → slot_at g rows i d ≡ slot_at f rows i d
unfolding slot_at
slot_same f g rows i d e h =
    ap (λ (x : List Float). pick (leb rows (i + d)) nought (similarity_of (dot_of x (feature_row g (i + d))) (norm_of x) (norm_of (feature_row g (i + d))))) e
    ∙ ap (λ (y : List Float). pick (leb rows (i + d)) nought (similarity_of (dot_of (feature_row f i) y) (norm_of (feature_row f i)) (norm_of y))) h

-- row t is not among the k rows from row a on
abbrev pub Outside : (a k t : ℕ) → Type 0
Outside a k t = (t < a) ⊎ (a + k ≤ t)

-- k rows of the features from row a on are replaced by new
module _ (features new : List Float) (rows a k : ℕ) (whole : length features ≡ rows * 16) (given : length new ≡ k * 16) (fit : a + k ≤ rows) where
  pub slot_over : (i d : ℕ) → Outside a k i → Outside a k (i + d) → slot_at (over features (a * 16) new) rows i d ≡ slot_at features rows i d
  slot_over i d h g =
      slot_same features (over features (a * 16) new) rows i d
      (row-over features new rows 16 a k nan whole given fit i h)
      (row-over features new rows 16 a k nan whole given fit (i + d) g)

  -- slot j of the flat slice
  pub similarity-over : (j : ℕ) → Outside a k (j / 17) → Outside a k (j / 17 + j % 17)
      → similarity_at (over features (a * 16) new) rows j ≡ similarity_at features rows j
  unfolding similarity_at
  similarity-over j h g = slot_over (j / 17) (j % 17) h g
